use Rattle.std.proofs.Common.{◌≡◌, ℕ, ◌+◌, ◌<◌, List, ◌∷◌, length, get_or, drop, refl, sym, ap, ◌∙◌, add-one}
use Rattle.std.proofs.Math.Seq.{drop-cons}
use Rattle.std.specs.Prelude.{◌||◌}
use Rattle.std.specs.FinSet as set
use Rattle.hb_store.specs.Replay.{is_among}
use Rattle.hb_store.proofs.Facts.Setting.{add_next}
use Rattle.hb_store.proofs.pages.add_all.Goals as goal

pub loop-id-preserved : goal.loop-id-preserved
loop-id-preserved c = λ q.
    let ids = c.args.ids.now in
    let i = c.loop-id.id-index in
    let lt : i < length ids = c.loop-id-test.true in
    let cut : drop i ids ≡ get_or ids i 0 ∷ drop (i + 1) ids = rw (add-one, drop-cons ids i 0) refl in
    add_next q (get_or ids i 0) (drop (i + 1) ids) (set.contains c.loop-id.in_log q) (set.contains c.add.new.self q) (c.add.ensures q)
    ∙ ap (λ (l : List ℕ). is_among q l || set.contains c.loop-id.in_log q) (sym cut)
    ∙ c.loop-id.invariant q
