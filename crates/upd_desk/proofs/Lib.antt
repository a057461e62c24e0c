mod ReplyLemmas
mod JournalLemmas
mod KeptLemmas
mod RepeatLemmas
pub mod MadeLemmas
mod ShownLemmas
mod StateLemmas
mod AlikeLemmas
mod AnswerLemmas
mod StoreLemmas
pub mod ArrivesLemmas
pub mod Common
mod RunAllLemmas
mod SettlesLemmas
mod RefusedLemmas
pub mod QueryLemmas
mod ListedLemmas
mod LoadingLemmas
mod StandingLemmas
mod NeededLemmas
mod FileLemmas
mod LeadLemmas
mod LookingLemmas
mod WorkLemmas
mod LawLemmas
