-- The links as they count: by whether they are present. Assumes nothing.
use Prim.Native.Nat.{◌≤◌}
use mathlib.Core.Bool.{Bool, true, false, cond}
use mathlib.Core.Path.{◌≡◌, refl, ap}
use native.Mathlib.Omega.{arith}
use Rattle.section.specs.declared.Links.{Links}
use Rattle.section.specs.declared.Load.{Load}
use Rattle.section.specs.Section.{absent, no_links, links_with, counted_links}
use Rattle.section.specs.Code.Usable.{LinksOk}

module _ (k : Links) where
  pub counted_none : absent k ≡ true → counted_links k ≡ no_links
  counted_none e = ap (λ (t : Bool). cond t no_links (links_with k.area k.spacing)) e

  pub counted_some : absent k ≡ false → counted_links k ≡ links_with k.area k.spacing
  counted_some e = ap (λ (t : Bool). cond t no_links (links_with k.area k.spacing)) e

  pub counted-absent : absent (counted_links k) ≡ absent k
  counted-absent = go (absent k)
    where
      go : (t : Bool) → absent (cond t no_links (links_with k.area k.spacing)) ≡ t
      go true = refl
      go false = refl

  -- counted once more they are the same
  pub counted_twice : counted_links (counted_links k) ≡ counted_links k
  counted_twice = go (absent k)
    where
      go : (t : Bool) → counted_links (cond t no_links (links_with k.area k.spacing)) ≡ cond t no_links (links_with k.area k.spacing)
      go true = refl
      go false = refl

  -- and where they passed their tests, their numbers are small: those of absent links are 0
  pub counted-small : (l : Load) → LinksOk (counted_links k) l → ((counted_links k).area ≤ 5000) × ((counted_links k).spacing ≤ 1000)
  counted-small l = go (absent k)
    where
      go : (t : Bool) → LinksOk (cond t no_links (links_with k.area k.spacing)) l
          → ((cond t no_links (links_with k.area k.spacing)).area ≤ 5000) × ((cond t no_links (links_with k.area k.spacing)).spacing ≤ 1000)
      go true ok = (omega arith, omega arith)
      go false ok = let r = ok.ranges refl in (r.area-high, r.spacing_high)
