use Rattle.std.proofs.Common.{get_or, ap, ◌∙◌}
use Rattle.line.proofs.Values.{zeros}
use Rattle.line.proofs.store.Store.new.Goals as goal

pub returns : goal.returns
returns c k = ap (λ xs. get_or xs k 0) (c.in_ok-values.ensures.items_if_clones_equal (λ y e. e)) ∙ zeros 65536 k
