use Rattle.std.proofs.Common.{◌≡◌, ◌+◌, ◌-◌, arith, length, drop, ap, ◌∙◌}
use lib.Seq.{drop-drop}
use Rattle.check_list.proofs.Streams.{wrote_more}
use Rattle.check_list.proofs.write_whole.Goals as goal

pub loop-left-preserved : goal.loop-left-preserved
loop-left-preserved g c =
    let bytes = c.args.bytes.now in
    let done = length bytes - length c.loop-left.left.now in
    let more = c.in_ok-more.more in
    let now : length bytes - length c.split_at.result.1.now ≡ done + more = omega (arith, c.split_at.ensures.back_len, c.loop-left.invariant.in_range) in
    let rest = c.loop-left.invariant.rest in
    record {
      in_range = omega (arith, c.split_at.ensures.back_len, c.loop-left.invariant.in_range);
      rest = rw now (c.split_at.ensures.back ∙ ap (drop more) rest ∙ drop-drop more done bytes);
      wrote = rw now (wrote_more _ _ _ done more bytes c.loop-left.invariant.wrote (rw rest at c.in_ok-more.ensures.bytes));
    }
