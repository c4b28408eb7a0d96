-- After each part, writing what is left of the line finishes it.
use mathlib.Core.Path.{◌≡◌, refl, ap, ◌∙◌}
use mathlib.Core.List.{List, [], ◌∷◌, ◌++◌, append_assoc, map}
use Prim.Native.Nat.{ℕ}
use lib.IntN.{ℤ}
use borrow.Author.Rules.{rules}
use mir.Syntax.{w64}
use mir.Val.{SFits}
use mir.Facts.{to_z-of_z}
use Rattle.clauses.specs.declared.Listed.{Listed}
use Rattle.listing.specs.Text.{natural, integer}
use Rattle.listing.specs.Line.{newline, spaced, line}
use Rattle.listing.proofs.Finishing.{Left, begun, next_in, finished, has_room, same_text}
use Rattle.listing.proofs.line.put_line.Goals as goal
use Rattle.listing.proofs.line.put_line.Goals.{Start, After-put_natural-words, After-put_words-signed, After-put_signed_word-others}
use Rattle.listing.proofs.line.put_line.Goals.{After-put_words-judged, After-put_words-end}

-- ---- the parts of a line
before_it : (ws : List (List ℕ)) (end : List ℕ) → spaced ws [] ++ end ≡ spaced ws end
before_it [] end = refl
before_it (w ∷ ws) end = ap (λ (l : List ℕ). 32 ∷ l) (append_assoc w (spaced ws []) end ∙ ap (λ (l : List ℕ). w ++ l) (before_it ws end))

module _ (a : Listed) where
  abbrev first : List (List ℕ)
  first = map natural (a.refusal ∷ a.u ∷ [])

  abbrev others : List (List ℕ)
  others = map natural (a.vrd ∷ a.dm ∷ a.area ∷ [])

  abbrev judged : List (List ℕ)
  judged = map natural a.verdicts

  abbrev leading : List ℕ
  leading = spaced first []

  abbrev signed : List ℕ
  signed = 32 ∷ integer a.mrd

  abbrev trailing : List ℕ
  trailing = spaced others []

  abbrev verdicts : List ℕ
  verdicts = spaced judged []

  abbrev after_leading : List ℕ
  after_leading = signed ++ (trailing ++ (verdicts ++ newline))

  parts : (k : ℕ) → natural k ++ (leading ++ after_leading) ≡ line k a
  unfolding line
  parts k =
      ap (λ (l : List ℕ). natural k ++ (leading ++ (signed ++ (trailing ++ l)))) (before_it judged newline)
      ∙ ap (λ (l : List ℕ). natural k ++ (leading ++ (signed ++ l))) (before_it others (spaced judged newline))
      ∙ ap (λ (l : List ℕ). natural k ++ l) (before_it first (signed ++ spaced others (spaced judged newline)))

-- ---- the stages: `left` is left once the buffer is ys and the place j
abbrev Stage : Start → List ℕ → ℕ → List ℕ → Type 0
Stage c ys j left = Left c.args.out.now c.args.at (line c.args.number c.args.a.now) ys j left

begun_here : (c : Start) → Stage c c.args.out.now c.args.at (natural c.args.number ++ (leading c.args.a.now ++ after_leading c.args.a.now))
begun_here c = rw (parts c.args.a.now c.args.number) (begun _ _ _)

module _ (c : After-put_natural-words) where
  abbrev start1 : Start
  start1 = (goal.at.After-put_natural-words c).Start

  stage1 : Stage start1 c.put_natural-words.new.out c.put_natural-words.result (leading c.args.a.now ++ after_leading c.args.a.now)
  stage1 = next_in (leading c.args.a.now ++ after_leading c.args.a.now) c.requires (begun_here start1) c.put_natural-words.ensures

module _ (c : After-put_words-signed) where
  abbrev start2 : Start
  start2 = (goal.at.After-put_words-signed c).Start

  stage2 : Stage start2 c.put_words-signed.new.out c.put_words-signed.result (after_leading c.args.a.now)
  stage2 = next_in (after_leading c.args.a.now) c.requires (stage1 (goal.at.After-put_words-signed c).After-put_natural-words) c.put_words-signed.ensures

module _ (c : After-put_signed_word-others) where
  abbrev start3 : Start
  start3 = (goal.at.After-put_signed_word-others c).Start

  stage3 : Stage start3 c.put_signed_word-others.new.out c.put_signed_word-others.result (trailing c.args.a.now ++ (verdicts c.args.a.now ++ newline))
  stage3 =
      let p = (goal.at.After-put_signed_word-others c).After-put_words-signed in
      let fits : SFits w64 c.args.a.now.mrd = search rules in
      next_in (trailing c.args.a.now ++ (verdicts c.args.a.now ++ newline)) c.requires (stage2 p)
      (same_text (ap (λ (z : ℤ). 32 ∷ integer z) (to_z-of_z fits)) c.put_signed_word-others.ensures)

module _ (c : After-put_words-judged) where
  abbrev start4 : Start
  start4 = (goal.at.After-put_words-judged c).Start

  stage4 : Stage start4 c.put_words-judged.new.out c.put_words-judged.result (verdicts c.args.a.now ++ newline)
  stage4 =
      next_in (verdicts c.args.a.now ++ newline) c.requires (stage3 (goal.at.After-put_words-judged c).After-put_signed_word-others) c.put_words-judged.ensures

module _ (c : After-put_words-end) where
  abbrev start5 : Start
  start5 = (goal.at.After-put_words-end c).Start

  stage5 : Stage start5 c.put_words-end.new.out c.put_words-end.result newline
  stage5 = next_in newline c.requires (stage4 (goal.at.After-put_words-end c).After-put_words-judged) c.put_words-end.ensures

pub put_natural-words-requires : goal.put_natural-words-requires
put_natural-words-requires c =
    has_room (natural c.args.number) (leading c.args.a.now ++ after_leading c.args.a.now) c.requires (begun_here (goal.at.put_natural-words-requires c).Start)

pub put_words-signed-requires : goal.put_words-signed-requires
put_words-signed-requires c =
    has_room (leading c.args.a.now) (after_leading c.args.a.now) c.requires (stage1 (goal.at.put_words-signed-requires c).After-put_natural-words)

pub put_signed_word-others-requires : goal.put_signed_word-others-requires
put_signed_word-others-requires c =
    let p = (goal.at.put_signed_word-others-requires c).After-put_words-signed in
    let fits : SFits w64 c.args.a.now.mrd = search rules in
    rw (to_z-of_z fits) (has_room (signed c.args.a.now) (trailing c.args.a.now ++ (verdicts c.args.a.now ++ newline)) c.requires (stage2 p))

pub put_words-judged-requires : goal.put_words-judged-requires
put_words-judged-requires c =
    has_room (trailing c.args.a.now) (verdicts c.args.a.now ++ newline) c.requires (stage3 (goal.at.put_words-judged-requires c).After-put_signed_word-others)

pub put_words-end-requires : goal.put_words-end-requires
put_words-end-requires c = has_room (verdicts c.args.a.now) newline c.requires (stage4 (goal.at.put_words-end-requires c).After-put_words-judged)

pub put_byte-requires : goal.put_byte-requires
put_byte-requires c = has_room newline [] c.requires (stage5 (goal.at.put_byte-requires c).After-put_words-end)

pub returns : goal.returns
returns c = finished (next_in [] c.requires (stage5 (goal.at.returns c).After-put_words-end) c.put_byte.ensures)
