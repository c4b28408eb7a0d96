-- Try a layer: document 02, ticket 9, "try a bar before placing it". Assumes nothing.
use Rattle.std.specs.Prelude.{ℕ, cond, Result, Err}
use Rattle.refusals.specs.declared.Refusal.{Refusal}
use Rattle.refusals.specs.declared.Refusal.TheVariants.{LayerPlace}
use Rattle.section.specs.declared.Layer.{Layer}
use Rattle.section.specs.declared.Section.{Section}
use Rattle.section.specs.declared.Links.{Links}
use Rattle.section.specs.declared.Load.{Load}
use Rattle.section.specs.Section.{Counted, counted, links_of}
use Rattle.section.specs.Altered.{place_ok, altered}
use Rattle.clauses.specs.declared.Report.{Report}
use Rattle.clauses.specs.Check.{check_in}

-- "Its answer is the one that Check gives for a copy so altered, refusals included"; but "33 place beyond the number of layers, tested first"
abbrev pub trial_in : Counted → Links → Load → ℕ → Layer → Result Report Refusal
trial_in c k load place l = cond (place_ok place c) (check_in (altered place l c) k load) (Err LayerPlace)

abbrev pub trial_of : Section → Load → ℕ → Layer → Result Report Refusal
trial_of s load place l = trial_in (counted s) (links_of s) load place l
