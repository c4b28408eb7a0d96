-- Each sum so far, with what is left, is the sum over all; the quotient of the two is the mean depth.
use Prim.Native.Nat.{ℕ, zero, suc, ◌+◌, ◌*◌, ◌/◌, ◌<◌, ◌≤◌}
use mathlib.Core.Bool.{cond}
use mathlib.Core.List.{List, [], ◌∷◌}
use mathlib.Core.Path.{◌≡◌, refl, sym, ap₂, ◌∙◌}
use native.Mathlib.Nat.{div-zero}
use native.Mathlib.Numerals.{add-one}
use native.Mathlib.Omega.{arith}
use lib.ListN.{drop, get_or, drop_of_length-le}
use lib.Seq.{drop-cons}
use Rattle.std.specs.Prelude.{Option, None, Some, SomeIff, unwrap_or}
use Rattle.section.specs.declared.Layer.{Layer}
use Rattle.verdicts.specs.Tension.{in_tension, tension_layers, total, first_moment, As, dm}
use Rattle.verdicts.proofs.Layers.{Summed, sum_step, sum_done, tension_step, mean_is, As-high, dm-high, moment-most}
use Rattle.verdicts.proofs.tension.tension_reinforcement.Goals as goal
use Rattle.verdicts.proofs.tension.tension_reinforcement.Goals.{After-either-area, After-either-moment, After-unwrap_or-depth}

-- the next layer, and what it adds to either sum
module _ (c : After-either-area) where
  abbrev ls : List Layer
  ls = c.args.layers.now

  abbrev layer : Layer
  layer = get_or ls c.loop-l.l-index record { depth = 0; area = 0 }

  next : drop c.loop-l.l-index ls ≡ layer ∷ drop (c.loop-l.l-index + 1) ls
  next = rw (add-one, drop-cons ls c.loop-l.l-index record { depth = 0; area = 0 } c.loop-l-test.true) refl

  area_kept : c.either-area.result ≡ cond (in_tension c.args.u layer) layer.area 0
  area_kept = c.either-area.ensures ∙ (λ i. cond (c.in_tension-counts.ensures i) (c.from-steel.ensures i) 0)

module _ (c : After-either-moment) where
  abbrev a : After-either-area
  a = (goal.at.After-either-moment c).After-either-area

  moment_kept : c.either-moment.result ≡ cond (in_tension c.args.u (layer a)) ((layer a).area * (layer a).depth) 0
  moment_kept = c.either-moment.ensures ∙ (λ i. cond (c.in_tension-counts.ensures i) (c.from-steel.ensures i * c.from.ensures i) 0)

  summed : Summed c.args.u (ls a) (drop (c.loop-l.l-index + 1) (ls a)) (c.loop-l.area + c.either-area.result) (c.loop-l.moment + c.either-moment.result)
  summed = sum_step (next a) (area_kept a) moment_kept c.loop-l.invariant

pub overflow_add-area : goal.overflow_add-area
overflow_add-area c =
    let u = c.args.u in
    let most : As u (ls c) ≤ 320000 = As-high (ls c) c.requires u in
    let step = tension_step u (λ l. l.area) (layer c) (drop (c.loop-l.l-index + 1) (ls c)) in
    omega (arith, step, rw (next c) at c.loop-l.invariant.area_is, area_kept c)

pub overflow_add-moment : goal.overflow_add-moment
overflow_add-moment c = omega (arith, (summed c).moment_is, moment-most (ls (a c)) c.requires c.args.u)

pub loop-l-preserved : goal.loop-l-preserved
loop-l-preserved c = summed c

-- no area is left, and the quotient of 0 is 0
quotient : (r : Option ℕ) (m n : ℕ) → SomeIff r (0 < n) (m / n) → unwrap_or r 0 ≡ m / n
quotient None m zero h = sym (div-zero m)
quotient None m (suc n) h = absurd (h (omega arith))
quotient (Some x) m n h = h.1

module _ (c : After-unwrap_or-depth) where
  done : Summed c.args.u c.args.layers.now [] c.loop-l.area c.loop-l.moment
  done = sum_done (drop_of_length-le c.args.layers.now c.loop-l-test.false) c.loop-l.invariant

  area_is : c.loop-l.area ≡ As c.args.u c.args.layers.now
  unfolding total tension_layers
  area_is = omega (arith, done.area_is)

  moment_is : c.loop-l.moment ≡ first_moment (tension_layers c.args.u c.args.layers.now)
  unfolding total tension_layers
  moment_is = omega (arith, done.moment_is)

  depth_is : c.unwrap_or-depth.result ≡ dm c.args.u c.args.layers.now
  depth_is =
      c.unwrap_or-depth.ensures ∙ quotient c.checked_div.result c.loop-l.moment c.loop-l.area c.checked_div.ensures
      ∙ ap₂ ◌/◌ moment_is area_is ∙ sym (mean_is (tension_layers c.args.u c.args.layers.now))

pub returns : goal.returns
returns c =
    record {
      area = area_is c;
      depth = depth_is c;
      small = (rw (area_is c) (As-high c.args.layers.now c.requires c.args.u), rw (depth_is c) (dm-high c.args.layers.now c.requires c.args.u));
    }
