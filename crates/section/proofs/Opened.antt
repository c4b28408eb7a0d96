-- What a call knew of its section, while it had its layers in columns, once the section tests had accepted it: that they are those that it
-- counts, and usable. Assumes nothing.
use mathlib.Core.List.{List}
use mathlib.Core.Path.{◌≡◌, sym, ap, ◌∙◌}
use Prim.Native.Nat.{ℕ}
use lib.ListN.{length, length-map}
use Rattle.section.specs.declared.Section.{Section}
use Rattle.section.specs.declared.Design.{Design}
use Rattle.std.specs.Prelude.{Result, Ok}
use Rattle.refusals.specs.declared.Refusal.{Refusal}
use Rattle.section.specs.Section.{layers_of, counted}
use Rattle.section.specs.Refusals.{accepted}
use Rattle.section.specs.Code.Columns.{layers_in, Apart}
use Rattle.section.specs.Code.Usable.{Usable}
use Rattle.section.proofs.InColumns.{counted-in}
use Rattle.section.proofs.Usable.{usable_by}

pub record Opened (s : Section) (ds bs : List ℕ) (x : Design) : Type 0 where
  pub ready : accepted (counted s) ≡ Ok x
  pub usable : Usable x s.count (layers_of s)
  pub layers_are : layers_in s.count ds bs ≡ layers_of s
  pub sixteen : length ds ≡ 16

pub opened : {s : Section} {ds bs : List ℕ} {r : Result Design Refusal} {x : Design} → Apart s ds bs → r ≡ accepted (counted s) → r ≡ Ok x
    → Opened s ds bs x
opened {s} a answer is =
    let ready = sym answer ∙ is in
    let usable = usable_by s ready in
    record {
      ready = ready;
      usable = usable;
      layers_are = counted-in a usable.count_high;
      sixteen = ap length a.depths_are ∙ length-map s.layers (λ l. l.depth) ∙ a.places;
    }
