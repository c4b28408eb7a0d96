-- The first line, and after it the text that the input calls for.
use Rattle.std.proofs.Common.{◌≤◌, arith, length, sym, ap, ◌∙◌}
use Rattle.listing.specs.Code.Buffer.{room_for}
use Rattle.listing.specs.Records.{list_of}
use Rattle.listing.specs.Program.{too_long, printed_of}
use Rattle.listing.proofs.Finishing.{same_text}
use Rattle.listing.proofs.Laws.{printed_list, printed_26}
use Rattle.check_list.proofs.Printing.{Both, both_put, prefix_len, within}
use Rattle.check_list.proofs.put_text.Goals as goal
use Rattle.check_list.proofs.put_text.Goals.{After-list, After-list_too_long}

-- all bytes are in hand: their list is there
few : (c : After-list) → length c.in-Some.hand.now ≤ 65536
few c = rw c.in-Some.is at c.requires.few

listed : (c : After-list)
    → Both c.args.text.now c.put_first_line-at.new.text c.list.new.out c.put_first_line-at.result (list_of c.in-Some.hand.now) c.list.result
listed c =
    let most = few c in
    both_put (room_for (length c.in-Some.hand.now)) (list_of c.in-Some.hand.now) c.put_first_line-at.ensures c.put_first_line-at.auto.text
    (omega (arith, c.requires.room)) c.list.ensures.value c.list.ensures.lent

-- there are more: the line of 26 is there
refused : (c : After-list_too_long)
    → Both c.args.text.now c.put_first_line-at.new.text c.list_too_long.new.out c.put_first_line-at.result too_long c.list_too_long.result
refused c =
    both_put (room_for 0) too_long c.put_first_line-at.ensures c.put_first_line-at.auto.text (omega (arith, c.requires.room))
    c.list_too_long.ensures.value c.list_too_long.ensures.lent

pub overflow_add-result : goal.overflow_add-result
overflow_add-result c = omega (arith, within (listed (goal.at.overflow_add-result c).After-list))

pub overflow_add-result-in-None : goal.overflow_add-result-in-None
overflow_add-result-in-None c = omega (arith, within (refused (goal.at.overflow_add-result-in-None c).After-list_too_long))

pub returns-in-Some-clause-within : goal.returns-in-Some-clause-within
returns-in-Some-clause-within c = prefix_len _ _ (within (listed (goal.at.returns-in-Some-clause-within c).After-list))

pub returns-in-Some-clause-text : goal.returns-in-Some-clause-text
returns-in-Some-clause-text c =
    let h = (goal.at.returns-in-Some-clause-text c).After-list in
    λ xs b. same_text (sym (ap printed_of (rw c.in-Some.is at b) ∙ printed_list c.in-Some.hand.now (few h))) (listed h)

pub returns-in-None-clause-within : goal.returns-in-None-clause-within
returns-in-None-clause-within c = prefix_len _ _ (within (refused (goal.at.returns-in-None-clause-within c).After-list_too_long))

pub returns-in-None-clause-text : goal.returns-in-None-clause-text
returns-in-None-clause-text c =
    λ xs b. same_text (sym (printed_26 xs (rw c.in-None.is at b))) (refused (goal.at.returns-in-None-clause-text c).After-list_too_long)
