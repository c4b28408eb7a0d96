-- The sum so far and what the layers left give is the resistance.
use Prim.Native.Nat.{◌+◌, ◌≤◌}
use mathlib.Core.List.{List, [], ◌∷◌}
use mathlib.Core.Path.{◌≡◌, refl, sym, ap, ◌∙◌}
use native.Mathlib.Omega.{arith}
use lib.IntN.{pos, ◌+ℤ◌}
use lib.ListN.{drop, get_or}
use mir.Syntax.{w64}
use mir.Val.{to_z}
use Rattle.std.proofs.lemmas.List.{drop_more, drop_all}
use Rattle.arith.proofs.Bound.{up_to, add-in}
use Rattle.arith.proofs.Machine.{M, local, call, ◌⊞◌, fits, value, result}
use Rattle.section.specs.declared.Layer.{Layer}
use Rattle.section.specs.Section.{no_layer}
use Rattle.section.specs.Code.Accepted.{layers_in}
use Rattle.section.specs.Code.Usable.{LayerOk}
use Rattle.section.proofs.Usable.{layer-at-ok}
use Rattle.section.proofs.Walk.{sum_step, sum_done}
use Rattle.beyond.specs.Code.Whole.{block_moment}
use Rattle.equilibrium.specs.Code.Whole.{steel_at}
use Rattle.equilibrium.proofs.Range.{concrete-at, concrete-in, layer-at-in, steel_none, steel_next, resistance_parts}
use Rattle.equilibrium.proofs.resistance.moment_resistance.Goals as goal
use Rattle.equilibrium.proofs.resistance.moment_resistance.Goals.{In-loop-l, After-layer_moment_at-sum}

-- the next layer
module _ (c : In-loop-l) where
  abbrev ls : List Layer
  ls = layers_in c.args.face.now

  abbrev layer : Layer
  layer = get_or c.layers-l-items.result.now c.loop-l.l-index no_layer

  here : drop c.loop-l.l-index ls ≡ layer ∷ drop (c.loop-l.l-index + 1) ls
  here = rw (sym c.layers-l-items.ensures.value) (drop_more c.layers-l-items.result.now c.loop-l.l-index no_layer c.loop-l-test.true)

  ok : LayerOk c.args.face.now.design.h layer
  ok = layer-at-ok ls c.loop-l.l-index c.args.face.now.usable here

  few : c.loop-l.l-index ≤ 16
  few = omega (arith, c.layers-l-items.ensures.all, c.loop-l-test.true, c.args.face.now.usable.count_high)

-- the sum with its moment
module _ (c : After-layer_moment_at-sum) where
  abbrev at : In-loop-l
  at = (goal.at.After-layer_moment_at-sum c).In-loop-l

  abbrev grown : M
  grown =
      local c.loop-l.sum-bits refl (up_to {Y = 7000000000000000000} c.loop-l.invariant.1 (omega (arith, few at)))
      ⊞ call c.layer_moment_at-sum.type_inv c.layer_moment_at-sum.ensures (layer-at-in c.args.face.now.usable.bounded c.requires (ok at))

pub loop-l-init : goal.loop-l-init
loop-l-init c =
    let x = c.args.face.now.design in
    let b = c.args.face.now.usable.bounded in
    let concrete = c.concrete_moment-sum.ensures ∙ ap (λ k. pos (block_moment x.m.f x.b x.h k)) c.block_at.ensures ∙ concrete-at b c.requires in
    let is = result c.concrete_moment-sum.type_inv concrete in (
      (λ i. is i +ℤ steel_at x (layers_in c.args.face.now) c.args.u) ∙ sym (resistance_parts x c.args.u _),
      rw is (up_to (concrete-in b c.requires) (omega arith)),
    )

pub overflow_add-sum : goal.overflow_add-sum
overflow_add-sum c = fits (grown c) tt

pub loop-l-preserved : goal.loop-l-preserved
loop-l-preserved c =
    let x = c.args.face.now.design in
    let inv = c.loop-l.invariant in
    let l = layer-at-in c.args.face.now.usable.bounded c.requires (ok (at c)) in (
      rw (value (grown c) tt)
          (sum_step (λ zs. steel_at x zs c.args.u) (to_z w64 c.loop-l.sum-bits) inv.0 _ (here (at c)) (steel_next x c.args.u _ _)),
      rw (value (grown c) tt) (up_to (add-in inv.1 l) (omega arith)),
    )

pub returns : goal.returns
returns c =
    let x = c.args.face.now.design in
    let none : drop c.loop-l.l-index (layers_in c.args.face.now) ≡ []
    = rw (sym c.layers-l-items.ensures.value) (drop_all _ _ c.loop-l-test.false) in
    sum_done (λ zs. steel_at x zs c.args.u) (to_z w64 c.loop-l.sum-bits) c.loop-l.invariant.0 none (steel_none x c.args.u)
