use Rattle.std.proofs.Common.{◌≡◌, List, ℕ, length, ap, subst, slice_index_or, arith}
use Rattle.std.specs.List.{flat_map}
use Rattle.std.proofs.lemmas.List.Folds.{length-flat_map-take}
use Rattle.hb_lemmas.specs.Numbers.{big_endian}
use Rattle.hb_page_codec.specs.Writing.{Wrote}
use Rattle.hb_page_codec.proofs.Writes.{Wrote-next, Wrote-nothing, wrote_all}
use Rattle.hb_page_codec.proofs.encoding.put_point.Goals as goal
use Rattle.hb_lemmas.proofs.Numbers.{length_big_endian}

pub put_u64-end-requires : goal.put_u64-end-requires
put_u64-end-requires c =
    let xs = c.values-value-items.result.now in
    let i = c.loop-value.value-index in
    let room = length-flat_map-take (big_endian 8) xs i 0 c.loop-value-test.true in
    let all : length (flat_map (big_endian 8) xs) ≡ length (flat_map (big_endian 8) c.args.point.now) = ap (λ (p : List ℕ). length (flat_map (big_endian 8) p)) c.values-value-items.ensures.value in
    omega (arith, room, all, length_big_endian 8 (slice_index_or xs i 0), c.requires, c.loop-value.invariant.behind, c.loop-value.auto.into)

pub loop-value-preserved : goal.loop-value-preserved
loop-value-preserved c =
    Wrote-next (big_endian 8) c.values-value-items.result.now c.loop-value.value-index 0 c.args.into.now c.args.at c.loop-value.into c.loop-value.end c.put_u64-end.new.into c.put_u64-end.result c.loop-value-test.true c.loop-value.invariant c.put_u64-end.ensures

pub loop-value-init : goal.loop-value-init
loop-value-init c = Wrote-nothing c.args.into.now c.args.at

pub returns : goal.returns
returns c =
    let whole = wrote_all (big_endian 8) c.values-value-items.result.now c.loop-value.value-index c.args.into.now c.args.at c.loop-value.into c.loop-value.end c.loop-value-test.false c.loop-value.invariant in
    subst (λ (p : List ℕ). Wrote c.args.into.now c.args.at (flat_map (big_endian 8) p) c.loop-value.into c.loop-value.end) c.values-value-items.ensures.value whole
