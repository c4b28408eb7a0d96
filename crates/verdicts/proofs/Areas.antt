-- The sequence of the layers makes no difference to their areas: a file of its own, which an edit under must-fail/ changes. Assumes nothing.
use mathlib.Core.List.{List}
use mathlib.Core.Path.{◌≡◌, refl}
use Rattle.arith.specs.Rearranged.{Rearranged}
use Rattle.arith.proofs.Rearranged.{sum_same, naturals}
use Rattle.section.specs.declared.Layer.{Layer}
use Rattle.verdicts.specs.Tension.{total, area_of}

pub area_same : {xs ys : List Layer} → Rearranged xs ys → area_of xs ≡ area_of ys
unfolding total
area_same same = sum_same naturals (λ l. l.area) area_of (λ l ls. refl) same
