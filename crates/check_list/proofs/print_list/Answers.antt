-- What went out are the first bytes of the text, all of them or some.
use Rattle.std.proofs.Common.{ℕ, List, IfSome, take}
use Rattle.std.specs.Io.KnownBytes.{Appends}
use Rattle.refusals.proofs.Exits.{goes_on}
use Rattle.listing.specs.Program.{printed_of}
use Rattle.check_list.proofs.Printing.{of_all}
use Rattle.check_list.proofs.print_list.Given.{Over}
use Rattle.check_list.proofs.print_list.Goals as goal
use Rattle.check_list.proofs.print_list.Goals.{After-write_whole}

-- what holds of the bytes of the text holds of the text for all that the reader had
of_text : (g : Over) (c : After-write_whole g) (P : List ℕ → Type 0) → P (take c.put_text-m.result c.put_text-m.new.text)
    → IfSome (g.R.Read.remaining c.args.reader.now) (λ xs. P (printed_of xs))
of_text g c P p =
    let taken = goes_on _ c.read_input.result c.map_err.result c.map_err.ensures.cases c.in_ok-taken.was in
    of_all _ _ _ _ _ P (rw taken at c.read_input.ensures.bytes) c.put_text-m.ensures.text p

part : (g : Over) (c : After-write_whole g) → IfSome (g.R.Read.remaining c.args.reader.now)
    (λ xs. (k : ℕ) × Appends (g.W.Write.contents c.args.writer.now) (g.W.Write.contents c.write_whole.new.writer) (take k (printed_of xs)))
part g c =
    of_text g c (λ l. (k : ℕ) × Appends (g.W.Write.contents c.args.writer.now) (g.W.Write.contents c.write_whole.new.writer) (take k l))
    c.write_whole.ensures.part

pub returns-clause-whole : goal.returns-clause-whole
returns-clause-whole g c =
    of_text g (goal.at.returns-clause-whole g c).After-write_whole
    (λ l. Appends (g.W.Write.contents c.args.writer.now) (g.W.Write.contents c.write_whole.new.writer) l) c.in_ok-write_whole.ensures.whole

pub returns-clause-part : goal.returns-clause-part
returns-clause-part g c = part g (goal.at.returns-clause-part g c).After-write_whole

pub returns-in_err-write_whole-clause-part : goal.returns-in_err-write_whole-clause-part
returns-in_err-write_whole-clause-part g c = part g (goal.at.returns-in_err-write_whole-clause-part g c).After-write_whole
