use Rattle.upd_row_store.proofs.Common.{sym, ◌∙◌}
use Rattle.upd_row_store.proofs.assemble.assembled.Goals as goal

pub returns-clause-part : goal.returns-clause-part
returns-clause-part c = λ tables l sound shows are. c.library_of.ensures ∙ c.in_ok-idents.ensures tables l sound shows are

pub returns-clause-whole : goal.returns-clause-whole
returns-clause-whole c = λ tables l sound whole shows are.
    returns-clause-part c tables l sound shows are ∙ (λ i. record l { rest = sym whole i })
