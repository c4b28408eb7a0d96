-- What the documents say of the definitions and no contract says: each a law, in full. A law that is taken away or weakened in its crate
-- fails here. Assumes nothing.
use Rattle.std.specs.Prelude.{ℕ, suc, ◌+◌, ◌*◌, ◌^◌, ◌≤◌, ◌<◌, true, false, not, ◌↔◌, ◌≡◌, refl, ℤ, pos, neg_ℤ, ◌<ℤ◌}
use Rattle.std.specs.Prelude.{length, get_or, set, Some, Ok, Err}
use native.Mathlib.Omega.{arith}
use mathlib.Core.List.{List, [], ◌∷◌, ◌++◌, reverse, reverse_perm}
use Rattle.std.specs.Result.{result_err}
use Rattle.arith.specs.Integer.{in_range}
use Rattle.arith.specs.Fraction.{Ratio, Same, integer, ◌<ᶠ◌}
use Rattle.arith.specs.Greatest.{IsGreatest, IsLeast}
use Rattle.arith.specs.Halving.{halved, kept_up_to}
use Rattle.arith.specs.Rearranged.{Rearranged, times}
use Rattle.refusals.specs.declared.Refusal.TheVariants.{Width, Height, LayerCount, LayerSequence, LayerPlace}
use Rattle.refusals.specs.Chain.{test, first_failing}
use Rattle.refusals.specs.Number.{number_of}
use Rattle.materials.specs.Answer.{materials_of}
use Rattle.section.specs.declared.Layer.{Layer}
use Rattle.section.specs.declared.Links.{Links}
use Rattle.section.specs.declared.Section.{Section}
use Rattle.section.specs.declared.Load.{Load}
use Rattle.section.specs.declared.Design.{Design}
use Rattle.section.specs.Section.{layers_of, Counted, counted, absent, no_links, counted_links, links_of}
use Rattle.section.specs.Code.Usable.{Bounded, Usable}
use Rattle.section.specs.Refusals.{accepted}
use Rattle.section.specs.Rearranged.{SameBars, same_layer}
use Rattle.beyond.specs.Force as beyond
use Rattle.beyond.specs.Depth.{reached_at, least_reaching}
use Rattle.beyond.specs.Code.Range.{Beyond}
use Rattle.beyond.proofs.Intervals as intervals
use Rattle.equilibrium.specs.Accuracy.{Range}
use Rattle.equilibrium.specs.Force.{at, stress, internal_force}
use Rattle.equilibrium.specs.Refusals.{carries, up_to_10h}
use Rattle.section.specs.Turned.{turned}
use Rattle.equilibrium.specs.Depth.{depth_under, trials_under, find_depth}
use Rattle.equilibrium.specs.Moment.{moment_at}
use Rattle.section.proofs.CountedLinks.{counted_twice}
use Rattle.section.proofs.Turned.{usable_turned}
use Rattle.section.proofs.Usable.{usable_by}
use Rattle.section.proofs.Rearranged as section_sequence
use Rattle.section.proofs.WithLayer as altered_section
use Rattle.equilibrium.proofs.Found as equilibrium
use Rattle.equilibrium.proofs.DepthOne as depth_one
use Rattle.equilibrium.proofs.Halving as halving
use Rattle.equilibrium.proofs.Accuracy as accuracy
use Rattle.equilibrium.proofs.Meeting as meeting
use Rattle.equilibrium.proofs.Rearranged as equilibrium_sequence
use Rattle.shear.specs.SizeFactor.{K}
use Rattle.shear.specs.Shear.{r_test, r, q_test, q}
use Rattle.arith.proofs.Greatest.{first_only}
use Rattle.links.specs.declared.Truss.{Truss}
use Rattle.links.specs.Links.{strut_cotangent, BestCotangent}
use Rattle.links.proofs.Whole as links
use Rattle.verdicts.specs.Tension.{tension_layers, As, dm}
use Rattle.verdicts.specs.declared.Verdict.TheVariants.{Fail}
use Rattle.verdicts.specs.Verdicts.{first}
use Rattle.clauses.specs.Check.{check_of, OfReport}
use Rattle.clauses.specs.Unreached.{Unreached}
use Rattle.clauses.proofs.Laws as clauses
use Rattle.clauses.proofs.Rearranged as clauses_sequence
use Rattle.clauses.specs.Trial.{trial_of}
use Rattle.clauses.proofs.Trial as trials
use Rattle.sequence.specs.Order.{ordered, sorted}
use Rattle.sequence.proofs.Order as sequences
use Rattle.record.specs.Map.{record_length}
use Rattle.record.specs.Layout.{map_of, record_of}
use Rattle.record.specs.Refusals.{names_length}
use Rattle.record.specs.Read.{read_of}
use Rattle.record.specs.Write.{written_of, buffer_of, bytes_written}
use Rattle.record.specs.RoundTrip.{cleared, ReadsBack}
use Rattle.record.proofs.Readings as readings
use Rattle.record.proofs.Laws as records
use Rattle.listing.specs.Records.{ends, GoesOn, list_of}
use Rattle.listing.specs.Program.{first_line, too_long, printed_of}
use Rattle.listing.proofs.Laws as listing
use Rattle.cases.specs.Case.{with_links}
use Rattle.cases.specs.Cases.{from_top, from_bottom}

-- ---- "Sections that differ only there count as the same": places beyond the counted layers; and numbers of absent links, for Check and
-- for records

pub beyond_find : (s t : Section) (N : ℤ) → counted s ≡ counted t → find_depth s N ≡ find_depth t N
beyond_find = equilibrium.beyond_find

pub beyond_moment : (s t : Section) (u : ℕ) → counted s ≡ counted t → moment_at s u ≡ moment_at t u
beyond_moment = equilibrium.beyond_moment

pub beyond_check : (s t : Section) (load : Load) → counted s ≡ counted t → links_of s ≡ links_of t → check_of s load ≡ check_of t load
beyond_check = clauses.beyond_check

pub beyond_trial : (s t : Section) (load : Load) (place : ℕ) (l : Layer) → counted s ≡ counted t → links_of s ≡ links_of t
    → trial_of s load place l ≡ trial_of t load place l
beyond_trial = trials.beyond_trial

pub beyond_written : (s t : Section) (load : Load) (buf : List ℕ) → counted s ≡ counted t → links_of s ≡ links_of t
    → written_of (counted s) (links_of s) load buf ≡ written_of (counted t) (links_of t) load buf
beyond_written = records.beyond_written

pub beyond_bytes : (s t : Section) (load : Load) (buf : List ℕ) → counted s ≡ counted t → links_of s ≡ links_of t
    → buffer_of (counted s) (links_of s) load buf ≡ buffer_of (counted t) (links_of t) load buf
beyond_bytes = records.beyond_bytes

-- absent links count as none, whatever their numbers
pub absent-links : (k : Links) → k.present ≡ 0 → counted_links k ≡ no_links
absent-links k e = rw e

-- Find a depth and Moment at a depth ignore links
pub find_ignores_links : (s : Section) (k : Links) (N : ℤ) → find_depth (with_links k s) N ≡ find_depth s N
find_ignores_links s k N = refl

pub moment_ignores_links : (s : Section) (k : Links) (u : ℕ) → moment_at (with_links k s) u ≡ moment_at s u
moment_ignores_links s k u = refl

-- ---- "any rearrangement of the layers of a section gives the same depth, moment, verdicts and refusal": 02's ticket 2, for every section, valid
-- or not, and every load. (Of the bytes of records: ticket 6, below.)

-- Find a depth: the whole answer, its trials too
pub rearranged_find : (s t : Section) (N : ℤ) → SameBars (counted s) (counted t) → find_depth s N ≡ find_depth t N
rearranged_find s t N same = equilibrium_sequence.find_same same N

-- Moment at a depth, for every u
pub rearranged_moment : (s t : Section) (u : ℕ) → SameBars (counted s) (counted t) → moment_at s u ≡ moment_at t u
rearranged_moment s t u same = equilibrium_sequence.moment_same same u

-- Check: the whole report, of both faces and of the links, which are among the other fields here
pub rearranged_check : (s t : Section) (load : Load) → SameBars (counted s) (counted t) → links_of s ≡ links_of t → check_of s load ≡ check_of t load
rearranged_check s t load same links = clauses_sequence.check_same same load links

-- what a rearrangement is: each layer stands as often in one list as in the other
pub equal_bags : (xs ys : List Layer) → Rearranged xs ys ↔ ((l : Layer) → times same_layer l xs ≡ times same_layer l ys)
equal_bags = section_sequence.equal_bags

-- and all that the three laws ask of two sections: equal fields, and each counted layer as often in one as in the other
pub same_bars : (s t : Section) → s.width ≡ t.width → s.height ≡ t.height → s.grade ≡ t.grade → s.count ≡ t.count
    → ((l : Layer) → times same_layer l (layers_of s) ≡ times same_layer l (layers_of t)) → SameBars (counted s) (counted t)
same_bars s t = section_sequence.same_bars (counted s) (counted t)

-- "from the bottom or from the top": layers back to front, and so the sections of the worked cases
pub back_to_front : (ls : List Layer) → Rearranged (reverse ls) ls
back_to_front = reverse_perm

pub either_way : SameBars (counted from_bottom) (counted from_top)
either_way = record { width = refl; height = refl; grade = refl; count = refl; layers = back_to_front (layers_of from_top) }

-- ---- of the layers of an accepted section, for either face

-- they are usable, which is what the laws below ask
pub usable_faces : (s : Section) {x : Design} → accepted (counted s) ≡ Ok x
    → Usable x s.count (layers_of s) × Usable x s.count (turned x.h (layers_of s))
usable_faces s e = (usable_by s e, usable_turned (layers_of s) (usable_by s e))

-- test 11 says the same of both faces
pub one-turned : {x : Design} {n : ℕ} (ls : List Layer) (N : ℤ) → Usable x n ls → carries x (turned x.h ls) N 1 ≡ carries x ls N 1
one-turned = depth_one.one-turned

-- verdict one has an interval of M, which is empty where MRd of the top is below −MRd of the bottom
pub none_between : (M top bottom : ℤ) → top <ℤ neg_ℤ bottom → first M top bottom ≡ Fail
none_between = clauses.none_between

-- at 10h the page of the depths beyond it gives the same stress as the page up to it
pub same_stress : (x : Design) (l : Layer) → Bounded x → Same (stress x l (at (10 * x.h))) (beyond.stress x l (10 * x.h))
same_stress = meeting.same_stress

-- "no u up to 30h reaches N": where N is above the internal force at 10h, it is above that at every depth up to 10h
pub none_up_to : (x : Design) (ls : List Layer) (N : ℤ) → Bounded x → up_to_10h x ls N ≡ false → (y : Ratio) → Range x.h y
    → internal_force x ls y <ᶠ integer N
none_up_to = accuracy.none_up_to

-- the depth beyond 10h, where there is one: the internal force there is at least N, and below N at every one before it; and where there is none it is
-- below N at every one
pub least_beyond : (x : Design) (ls : List Layer) (N : ℤ) → 1 ≤ least_reaching x ls N
    → IsLeast (reached_at x ls N) (10 * x.h + 1) (20 * x.h) (least_reaching x ls N)
least_beyond = intervals.reached-least

pub never_beyond : (x : Design) (ls : List Layer) (N : ℤ) → least_reaching x ls N ≡ 0 → (u : ℕ) → Beyond x u → reached_at x ls N u ≡ false
never_beyond = intervals.reached_never

-- where the face that M compresses lies beyond 10h no layer is in tension: verdicts two, three, four and six are 2 by the definitions
pub beyond_unreached : (s : Section) (load : Load) → OfReport (λ x r. 10 * x.h < r.u → Unreached r) (accepted (counted s)) (check_of s load)
beyond_unreached = clauses.beyond_unreached

-- the halving rule of 02's ticket 12, where N is not below the internal force at depth 1: one candidate remains, and it is the depth up to 10h
pub rule_finds : (x : Design) (ls : List Layer) (N : ℤ) → Bounded x → carries x ls N 1 ≡ true
    → (let c = halved (carries x ls N) (10 * x.h) in (c.least ≡ depth_under ls N x) × (c.greatest ≡ depth_under ls N x))
rule_finds = halving.rule_finds

-- its trials follow from the depth and h alone: a trial is kept exactly where it is at most the depth
pub trials_by : (x : Design) (ls : List Layer) (N : ℤ) → trials_under ls N x ≡ (halved (kept_up_to (depth_under ls N x)) (10 * x.h)).trials
trials_by = halving.trials_by

-- and where 10h lies between 2^j and 2^(j + 1) there are j of them, or one more: so 8 or 9 at h 50, and 14 or 15 at h 2,000
pub trials_between : (x : Design) (ls : List Layer) (N : ℤ) → Bounded x → (j : ℕ) → 2 ^ j ≤ 10 * x.h → 10 * x.h ≤ 2 ^ suc j
    → (j ≤ trials_under ls N x) × (trials_under ls N x ≤ suc j)
trials_between = halving.trials_between

-- r and q are the greatest of all numbers that pass their tests, not only up to a bound
pub r-greatest : {x : Design} {n : ℕ} (ls : List Layer) → Usable x n ls → (u : ℕ) → 1 ≤ As u ls
    → IsGreatest (r_test x.b x.m.fck (As u ls) (dm u ls)) (r x.b x.m.fck (As u ls) (dm u ls))
r-greatest = clauses.r-greatest

pub q-greatest : {x : Design} {n : ℕ} (ls : List Layer) → Usable x n ls → (u : ℕ) → IsGreatest (q_test x.m.fck (K (dm u ls))) (q x.m.fck (K (dm u ls)))
q-greatest = clauses.q-greatest

-- As is 0 only with no tension layer
pub no_tension : {x : Design} {n : ℕ} (ls : List Layer) → Usable x n ls → (u : ℕ) → As u ls ≡ 0 → tension_layers u ls ≡ []
no_tension = clauses.no_tension

-- links of an accepted section always have a tension layer beside them: what 02 says of links without one is never met
pub links-reached : (s : Section) (load : Load) → OfReport (λ x r. absent (links_of s) ≡ false → 1 ≤ r.area) (accepted (counted s)) (check_of s load)
links-reached = clauses.links-reached

-- the strut's cotangent: no tenth from 10 to 25 does better, and every smaller one does worse; and no other number is so
pub best_cotangent : (x : Truss) → BestCotangent x (strut_cotangent x)
best_cotangent = links.best_cotangent

pub only_cotangent : (x : Truss) {c : ℕ} → BestCotangent x c → c ≡ strut_cotangent x
only_cotangent x best = first_only best (links.best_cotangent x)

-- ---- "One sequence of layers on disk": 02's ticket 6

-- the layers so ordered are a rearrangement that stands in that sequence, and there is no other
pub sequence_of : (ls : List Layer) → Rearranged ls (sorted ls) × (ordered (sorted ls) ≡ true)
sequence_of ls = (sequences.sorted_rearranged ls, sequences.sorted-ordered ls)

pub sequence_one : (ls ks : List Layer) → Rearranged ls ks → ordered ks ≡ true → ks ≡ sorted ls
sequence_one ls ks = sequences.sequence_one

-- Write a record: the same bars with the same links have the same answer, refused or not, and leave the same buffer
pub rearranged_write : (s t : Section) (load : Load) (buf : List ℕ) → SameBars (counted s) (counted t) → links_of s ≡ links_of t
    → (written_of (counted s) (links_of s) load buf ≡ written_of (counted t) (links_of t) load buf)
    × (buffer_of (counted s) (links_of s) load buf ≡ buffer_of (counted t) (links_of t) load buf)
rearranged_write s t load buf same links =
    (records.rearranged_written s t load same links buf, records.rearranged_bytes s t load same links buf)

-- "Where both writes succeed, equal bags of layers with equal other fields now give records of equal bytes": whatever buffers were lent
pub canonical_bytes : (s t : Section) (load : Load) (xs ys : List ℕ) → SameBars (counted s) (counted t) → links_of s ≡ links_of t
    → (written_of (counted s) (links_of s) load xs).refusal ≡ 0 → (written_of (counted t) (links_of t) load ys).refusal ≡ 0
    → bytes_written (counted s) (links_of s) load xs ≡ bytes_written (counted t) (links_of t) load ys
canonical_bytes = records.canonical_bytes

-- and no others do: where both writes succeed, and both are read back as the clause `round_trip` promises, records of equal bytes are of equal bags of
-- layers with equal other fields (a section of the machine has sixteen places, and one that is written counts no more)
pub equal_bytes : (s t : Section) (l m : Load) (xs ys : List ℕ) → s.count ≤ length s.layers → t.count ≤ length t.layers
    → ReadsBack s l (written_of (counted s) (links_of s) l xs) (buffer_of (counted s) (links_of s) l xs)
    → ReadsBack t m (written_of (counted t) (links_of t) m ys) (buffer_of (counted t) (links_of t) m ys)
    → (written_of (counted s) (links_of s) l xs).refusal ≡ 0 → (written_of (counted t) (links_of t) m ys).refusal ≡ 0
    → bytes_written (counted s) (links_of s) l xs ≡ bytes_written (counted t) (links_of t) m ys
    → SameBars (counted s) (counted t) × ((links_of s ≡ links_of t) × (l ≡ m))
equal_bytes = records.equal_bytes

-- "The reader takes only records so ordered"
pub read_ordered : (bytes : List ℕ) → (read_of bytes).refusal ≡ 0 → ordered (layers_of (read_of bytes).section) ≡ true
read_ordered = readings.read_ordered

-- What the round trip yields has the same bars and links as the section that was written: so Find a depth, Moment at a depth and Check answer the same
-- of both, by the laws of ticket 2
pub written_same : (s : Section) → s.count ≤ length s.layers → SameBars (counted s) (counted (cleared s)) × (links_of (cleared s) ≡ links_of s)
written_same s h = (records.written_same s h, counted_twice s.links)

-- ---- "Try a bar before placing it": 02's ticket 9

-- a section with this layer written at a place, and this number of layers
abbrev copy : Section → ℕ → Layer → ℕ → Section
copy s place l count =
    record {
      layers = set s.layers place l;
      width = s.width;
      height = s.height;
      grade = s.grade;
      links = s.links;
      count = count;
    }

-- "Its answer is the one that Check gives for a copy so altered, refusals included": a layer is replaced
pub trial_replaced : (s : Section) (load : Load) (place : ℕ) (l : Layer) → place < s.count
    → trial_of s load place l ≡ check_of (copy s place l s.count) load
trial_replaced s load place l h =
    trials.trial_as s (copy s place l s.count) load place l (omega (arith, h)) (altered_section.replaces s place l h) refl

-- or one is added, where the section has a place for it
pub trial_added : (s : Section) (load : Load) (l : Layer) → s.count < length s.layers
    → trial_of s load s.count l ≡ check_of (copy s s.count l (s.count + 1)) load
trial_added s load l h =
    trials.trial_as s (copy s s.count l (s.count + 1)) load s.count l (omega arith) (altered_section.adds s s.count l refl h) refl

-- "with sixteen layers meets refusal 5 at its place in Check's sequence": b, h, fck, fyk, situation and αcc come before it
pub trial_full : (s : Section) (load : Load) (place : ℕ) (l : Layer) → place ≡ s.count → 16 ≤ s.count
    → result_err (trial_of s load place l)
    ≡ first_failing (test Width (in_range (pos 50) (pos 2000) s.width) ∷ test Height (in_range (pos 50) (pos 2000) s.height)
    ∷ result_err (materials_of s.grade) ∷ Some LayerCount ∷ [])
trial_full = trials.trial_full

-- "33 place beyond the number of layers, tested first"
pub trial_place_beyond : (s : Section) (load : Load) (place : ℕ) (l : Layer) → s.count < place → trial_of s load place l ≡ Err LayerPlace
trial_place_beyond = trials.trial_place_beyond

-- the layer that stands there is no alteration
pub trial_same : (s : Section) (load : Load) (place : ℕ) (d : Layer) → place < s.count
    → trial_of s load place (get_or (layers_of s) place d) ≡ check_of s load
trial_same = trials.trial_same

-- ---- records and their list

-- "The length is 4 plus 8 times the number of bits that stand": that of the bytes
pub record_length_lem : (c : Counted) (links : Links) (load : Load) → length (record_of c links load) ≡ record_length (map_of c links load)
record_length_lem = records.record_length_lem

-- the list ends where no length is named, after 20, 21 and 22, and nowhere else: after 31 it goes on
pub ends_unnamed : (k : ℕ) → names_length k ≡ not (ends k)
ends_unnamed k = refl

pub on_after_31 : ends (number_of LayerSequence) ≡ false
on_after_31 = refl

-- what is read of an input that is not empty, and then, unless the list ends, the readings of what follows the record
pub goes_on : (xs : List ℕ) → 0 < length xs → GoesOn xs
goes_on = listing.goes_on

-- no list is longer than 12 bytes for each byte of input and 48
pub list-most : (xs : List ℕ) → length xs < 2 ^ 64 → length (list_of xs) ≤ 12 * length xs + 48
list-most = listing.list-most

-- what the program prints, for at most 65,536 bytes and above
pub printed_list : (xs : List ℕ) → length xs ≤ 65536 → printed_of xs ≡ first_line ++ list_of xs
printed_list = listing.printed_list

pub printed_26 : (xs : List ℕ) → 65536 < length xs → printed_of xs ≡ first_line ++ too_long
printed_26 = listing.printed_26
