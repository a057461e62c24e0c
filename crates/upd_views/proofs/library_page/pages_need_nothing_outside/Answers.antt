use Rattle.std.proofs.Common.{refl}
use Rattle.upd_views.specs.LibraryPage.{page_head}
use Rattle.upd_views.proofs.library_page.pages_need_nothing_outside.Goals as goal

pub returns : goal.returns
unfolding page_head
returns c = refl
