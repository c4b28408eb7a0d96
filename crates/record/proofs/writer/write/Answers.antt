-- The other clauses from the first two; the written bytes read back.
use mathlib.Core.Path.{◌≡◌, ◌∙◌}
use Prim.Native.Nat.{◌^◌, ◌<◌}
use lib.ListN.{length}
use lib.Signed.{mag}
use borrow.Author.Rules.{rules}
use mir.Syntax.{w64}
use mir.Val.{SFits}
use Rattle.section.specs.Section.{counted}
use Rattle.record.specs.declared.fields.Number.{Number}
use Rattle.record.specs.declared.fields.Number.TheVariants.{Width, Height, Fck, Fyk, Axial, Moment, Shear, Situation, LongTerm}
use Rattle.record.specs.Layout.{value_of}
use Rattle.record.proofs.Passed.{Machine}
use Rattle.record.proofs.RoundTrip.{write_clauses}
use Rattle.record.proofs.writer.write.Goals as goal
use Rattle.record.proofs.writer.write.Goals.{Start}

module _ (c : Start) where
  -- what the machine's types say of the section and the load
  number_fits : (x : Number) → mag (value_of (counted c.args.s) c.args.l x) < 2 ^ 63
  number_fits Width = let f : SFits w64 c.args.s.width = search rules in f.sfits
  number_fits Height = let f : SFits w64 c.args.s.height = search rules in f.sfits
  number_fits Fck = let f : SFits w64 c.args.s.grade.fck = search rules in f.sfits
  number_fits Fyk = let f : SFits w64 c.args.s.grade.fyk = search rules in f.sfits
  number_fits Axial = let f : SFits w64 c.args.l.n = search rules in f.sfits
  number_fits Moment = let f : SFits w64 c.args.l.m = search rules in f.sfits
  number_fits Shear = let f : SFits w64 c.args.l.v = search rules in f.sfits
  number_fits Situation = let f : SFits w64 c.args.s.grade.situation = search rules in f.sfits
  number_fits LongTerm = let f : SFits w64 c.args.s.grade.alphacc = search rules in f.sfits

  machine : Machine c.args.s c.args.l
  machine = let sixteen : length c.args.s.layers ≡ 16 = search rules in record { places = sixteen; numbers = number_fits }

pub returns-clause-refusal : goal.returns-clause-refusal
returns-clause-refusal c =
    (write_clauses c.args.s c.args.l c.args.buffer.now (machine (goal.at.returns-clause-refusal c).Start)
    (c.from.ensures ∙ c.put_record.ensures.value) c.put_record.ensures.lent).0

pub returns-clause-round_trip : goal.returns-clause-round_trip
returns-clause-round_trip c =
    (write_clauses c.args.s c.args.l c.args.buffer.now (machine (goal.at.returns-clause-round_trip c).Start)
    (c.from.ensures ∙ c.put_record.ensures.value) c.put_record.ensures.lent).1
