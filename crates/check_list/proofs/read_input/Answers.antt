use Rattle.std.proofs.Common.{arith}
use Rattle.check_list.proofs.Streams.{read_more}
use Rattle.check_list.proofs.read_input.Goals as goal

pub loop-n-preserved : goal.loop-n-preserved
loop-n-preserved g c = record {
  in_range = search arith;
  read = read_more _ _ _ _ _ _ _ _ c.loop-n.invariant.in_range c.in_ok-more.ensures.bound.0 c.loop-n.invariant.read c.in_ok-more.ensures.bytes.0;
}
