-- The texts of moves at many places, and what each is compiled to.
use Rattle.upd_sql.proofs.Common.{List, [], ◌∷◌, refl, Binary, Eq, Compare, Term, col, op2, row_order}
use Rattle.sqlite_tied.specs.Compute.{everything}
use Rattle.sqlite.specs.Listing.{understood}
use Rattle.sqlite_sql.specs.declared.ops.ArithOp.TheVariants.{Add}
use Rattle.sqlite_sql.specs.declared.ops.CompareOp.TheVariants.{Ge, Le}
use Rattle.sqlite_sql.specs.declared.ops.BinaryOp.TheVariants.{Arith}
use Rattle.upd_sql.proofs.ReadTexts.{Reads, five}
use Rattle.upd_sql.proofs.WriteTexts.{IsUpdate, place_tests}
use Rattle.upd_sql.specs.declared.moving_texts.TheConstants as sql

pub cards_behind : Reads sql.CARDS_BEHIND.now 4 place_tests five row_order
unfolding understood everything
cards_behind = record { names = _; is = refl; plain = (refl, refl); unlisted = refl }

pub cards_in_turn : Reads sql.CARDS_IN_TURN.now 4 [] five row_order
unfolding understood everything
cards_in_turn = record { names = _; is = refl; plain = (refl, refl); unlisted = refl }

abbrev pub move_shift_tests : List Term
move_shift_tests = op2 (Compare Eq Binary) (col 1 1) (col 0 0) ∷ op2 (Compare Ge Binary) (col 1 2) (col 0 1) ∷ op2 (Compare Le Binary) (col 1 2) (col 0 2)
    ∷ op2 (Compare Eq Binary) (col 1 3) (col 0 3) ∷ op2 (Compare Ge Binary) (col 1 4) (col 0 4) ∷ []

abbrev pub move_shift_news : List Term
move_shift_news = col 1 1 ∷ col 1 2 ∷ col 1 3 ∷ op2 (Arith Add) (col 1 4) (col 0 5) ∷ col 1 5 ∷ []

pub move_shift : IsUpdate sql.MOVE_SHIFT.now 2 4 move_shift_tests move_shift_news
unfolding understood everything
move_shift = record { is = refl; plain = (refl, refl) }
