-- An accepted section as the code holds it: its design, and sixteen places of which the first `count` hold its layers. No sentence of document 01
-- stands here. Assumes nothing.
use Rattle.std.specs.Prelude.{ℕ, ◌+◌, List, [], ◌∷◌, ◌≡◌, take, Result, Ok, Err}
use Rattle.refusals.specs.declared.Refusal.{Refusal}
use Rattle.section.specs.declared.Layer.{Layer}
use Rattle.section.specs.declared.Design.{Design}
use Rattle.section.specs.declared.Section.{Section}
use Rattle.section.specs.declared.Accepted.{Accepted}
use Rattle.section.specs.Section.{counted, layers_of}
use Rattle.section.specs.Refusals.{accepted}

-- the layers of an accepted section
abbrev pub layers_in : Accepted → List Layer
layers_in a = take a.count a.layers

-- its design, or the refusal
abbrev pub design_in : Result Accepted Refusal → Result Design Refusal
design_in (Ok a) = Ok a.design
design_in (Err r) = Err r

-- of a section: what the formulas use of it, and its counted layers
pub record AcceptedOf (s : Section) (a : Accepted) : Type 0 where
  pub ready : accepted (counted s) ≡ Ok a.design
  pub layers_are : layers_in a ≡ layers_of s

-- the area of all layers
unfoldable pub area_sum : List Layer → ℕ
area_sum [] = 0
area_sum (l ∷ ls) = l.area + area_sum ls
