-- What a value of the code means.
use Rattle.upd_wire.specs.Requests.{HeadView}
use Rattle.upd_wire.specs.declared.request.RequestHead as code

-- a head that was read
abbrev pub head_view : code.RequestHead → HeadView
head_view w = record { route = w.found.route; path = w.found.params.path.now; body_len = w.body_len }
