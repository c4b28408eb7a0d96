-- The sequence of the layers makes no difference to the tension reinforcement. Assumes nothing.
use Prim.Native.Nat.{ℕ, ◌*◌, ◌/◌}
use mathlib.Core.Bool.{cond}
use mathlib.Core.List.{List}
use mathlib.Core.Path.{◌≡◌, sym, ap₂, ◌∙◌}
use Rattle.arith.specs.Rearranged.{Rearranged}
use Rattle.arith.proofs.Rearranged.{sum_same, naturals}
use Rattle.section.specs.declared.Layer.{Layer}
use Rattle.verdicts.specs.Tension.{in_tension, tension_layers, total, As, dm}
use Rattle.verdicts.proofs.Layers.{tension_step, mean_is}

module _ {xs ys : List Layer} (same : Rearranged xs ys) where
  module _ (u : ℕ) where
    -- a sum over the tension layers, to which each other one adds 0
    tension_same : (f : Layer → ℕ) → total f (tension_layers u xs) ≡ total f (tension_layers u ys)
    tension_same f = sum_same naturals (λ l. cond (in_tension u l) (f l) 0) (λ ls. total f (tension_layers u ls)) (tension_step u f) same

    pub As-same : As u xs ≡ As u ys
    As-same = tension_same (λ l. l.area)

    pub dm_same : dm u xs ≡ dm u ys
    dm_same = mean_is (tension_layers u xs) ∙ ap₂ ◌/◌ (tension_same (λ l. l.area * l.depth)) As-same ∙ sym (mean_is (tension_layers u ys))
