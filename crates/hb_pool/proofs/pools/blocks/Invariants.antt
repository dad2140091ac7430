use Rattle.std.proofs.Common.{◌≤◌, ◌-◌, vec_len}
use Rattle.hb_pool.specs.declared.pools.TheConstants.{FRAMES}
use Rattle.hb_pool.proofs.pools.blocks.Given as goal

abbrev pub invariant-loop-alloc : goal.invariant-loop-alloc
invariant-loop-alloc l = vec_len l.blocks ≤ FRAMES

abbrev pub decreases-loop-alloc : goal.decreases-loop-alloc
decreases-loop-alloc l = FRAMES - vec_len l.blocks
