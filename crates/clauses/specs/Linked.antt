-- What Check says of the links: document 02, ticket 3. Their formulas stand on the page `Links` of the links. Assumes nothing.
use Rattle.std.specs.Prelude.{ℕ, Bool, cond, not, ◌&&◌, leb, ℤ}
use Rattle.section.specs.declared.Links.{Links}
use Rattle.section.specs.declared.Design.{Design}
use Rattle.section.specs.Section.{absent}
use Rattle.links.specs.Links.{Truss, strut_cotangent, truss_resistance}
use Rattle.clauses.specs.declared.linked.LinkReport.{LinkReport}
use Rattle.verdicts.specs.declared.Verdict.TheVariants.{NotReached}
use Rattle.verdicts.specs.Verdicts.{sixth}

-- what 6.2.3 and 9.2.2 ask of a section with these links, dm being the mean depth of the tension layers
abbrev pub truss_of : Design → Links → ℕ → Truss
truss_of x k dm =
    record { b = x.b; fck = x.m.fck; fyk = x.m.fyk; g = x.m.g; s = x.m.s; dm = dm; area = k.area; spacing = k.spacing }

-- are there links, and tension layers?
abbrev pub reaches_links : Links → ℕ → Bool
reaches_links k As = not (absent k) && leb 1 As

-- the strut's cotangent in tenths, the resistance in newtons, and verdict six
abbrev pub link_report : Truss → ℤ → LinkReport
link_report x «V» = record { cotangent = strut_cotangent x; resistance = truss_resistance x; verdict = sixth x «V» }

-- without links or without tension layers verdict six is not reached, and cotangent and resistance are 0
abbrev pub no_link_report : LinkReport
no_link_report = record { cotangent = 0; resistance = 0; verdict = NotReached }

unfoldable pub linked_report : Design → Links → ℤ → ℕ → ℕ → LinkReport
linked_report x k «V» As dm = cond (reaches_links k As) (link_report (truss_of x k dm) «V») no_link_report
