use Rattle.std.proofs.Common.{◌≡◌, ◌+◌, ℕ, List, Option, Some, IsErr, ap, is_err, arith}
use Rattle.std.specs.Ordering.{nat_cmp}
use Rattle.std.specs.BTreeMap.{get}
use Rattle.std.proofs.lemmas.Result.{on_ok_weaker}
use Rattle.hb_disk.proofs.Facts.RunLaws.{Leaves-weaker, Leaves-then}
use Rattle.hb_lemmas.proofs.Options.{on_ok}
use Rattle.hb_super.specs.Superblocks.{next_turn}
use Rattle.hb_frag.specs.declared.pages.Page.{Page}
use Rattle.hb_layout.specs.declared.meta.Meta.{Meta}
use Rattle.hb_ops.specs.Files.{FileState}
use Rattle.hb_store.specs.Opening.{OpensTo}
use Rattle.hb_store.specs.Keeps.{IsFresh}
use Rattle.hb_store.specs.Turning.{StillOpens, IsHere, IsPlaced}
use Rattle.hb_store.proofs.Facts.Turned.{still_to}
use Rattle.hb_restart.specs.Renewing.{WritesAll}
use Rattle.hb_layout.specs.Offsets.{file_size, page_offset}
use Rattle.hb_disk.proofs.Facts.FaultLaws.{not_failed}
use Rattle.hb_restart.proofs.RunsThen.{runs_as, runs_given_up, runs_then}
use Rattle.hb_restart.proofs.EachOnce.{behind_all, all_written}
use Rattle.hb_restart.proofs.renewal.rewrite.Goals as goal
use Rattle.hb_layout.proofs.Facts.Parts.{front_within}

pub returns-in_err-place_pages-clause-moments : goal.returns-in_err-place_pages-clause-moments
returns-in_err-place_pages-clause-moments g c = λ said s here.
    let meta = c.args.found.now.meta in
    let touched = get nat_cmp c.args.found.now.touched in
    Leaves-weaker (g.D.Device.model c.args.disk.now) (g.D.Device.model c.place_pages.new.disk) (StillOpens c.args.found.now.turn said meta touched s) (λ x. OpensTo x s)
    (still_to c.args.found.now.turn said meta touched s) (c.place_pages.ensures.moments said s here)

pub returns-clause-moments : goal.returns-clause-moments
returns-clause-moments g c = λ said s here.
    let d = g.D.Device.model c.args.disk.now in
    let mid = g.D.Device.model c.place_pages.new.disk in
    let meta = c.args.found.now.meta in
    let touched = get nat_cmp c.args.found.now.touched in
    Leaves-then d mid (g.D.Device.model c.switch.new.disk) (λ x. OpensTo x s)
    (Leaves-weaker d mid (StillOpens c.args.found.now.turn said meta touched s) (λ x. OpensTo x s) (still_to c.args.found.now.turn said meta touched s) (c.place_pages.ensures.moments said s here))
    (c.switch.ensures.moments said touched s (c.in_ok-place_pages.ensures.placed said s here))

pub returns-clause-fresh : goal.returns-clause-fresh
returns-clause-fresh g c =
    let d = g.D.Device.model c.args.disk.now in
    let mid = g.D.Device.model c.place_pages.new.disk in
    let new = g.D.Device.model c.switch.new.disk in
    let turn = c.args.found.now.turn in
    let meta = c.args.found.now.meta in
    let touched = get nat_cmp c.args.found.now.touched in
    on_ok_weaker {P = (said : Meta) (touched : ℕ → Option Page) (s : FileState) → IsPlaced mid turn said meta touched s → IsFresh new (next_turn turn) meta s} {Q = (said : Meta) (s : FileState) → IsHere d turn said meta touched s → IsFresh new (next_turn turn) meta s} c.switch.result
    (λ fresh said s here. fresh said touched s (c.in_ok-place_pages.ensures.placed said s here))
    c.switch.ensures.fresh

pub returns-in_err-place_pages-clause-run : goal.returns-in_err-place_pages-clause-run
returns-in_err-place_pages-clause-run g c =
    let n = file_size c.args.found.now.meta in
    let high = c.args.found.now.meta.high in
    runs_given_up c.place_pages.result c.from_residual.result high (high + 11) n n (g.D.Device.model c.args.disk.now) (g.D.Device.model c.place_pages.new.disk) (ap is_err c.in_err-place_pages.was) c.from_residual.ensures.0 (omega arith) (omega arith) c.place_pages.ensures.run

pub returns-clause-run : goal.returns-clause-run
returns-clause-run g c =
    let meta = c.args.found.now.meta in
    let n = file_size meta in
    let mid = g.D.Device.model c.place_pages.new.disk in
    let new = g.D.Device.model c.switch.new.disk in
    runs_then meta.high 11 n (g.D.Device.model c.args.disk.now) mid new (not_failed c.place_pages.result c.in_ok-place_pages.field-0 c.in_ok-place_pages.was) c.place_pages.ensures.run
    (runs_as {F = IsErr c.switch.result} {G = IsErr c.switch.result} 11 11 (page_offset meta 1) n mid new (omega arith) (front_within meta) (λ f. f) (λ f. f) c.switch.ensures.run)

pub returns-in_err-place_pages-clause-once : goal.returns-in_err-place_pages-clause-once
returns-in_err-place_pages-clause-once g c = λ said s b here told. c.place_pages.ensures.once b told

pub returns-clause-once : goal.returns-clause-once
returns-clause-once g c = λ said s b here told.
    let mid = g.D.Device.model c.place_pages.new.disk in
    let touched = get nat_cmp c.args.found.now.touched in
    behind_all (g.D.Device.model c.args.disk.now).clock b c.args.found.now.meta touched mid (g.D.Device.model c.switch.new.disk) (c.in_ok-place_pages.ensures.written b told)
    (c.switch.ensures.moments said touched s (c.in_ok-place_pages.ensures.placed said s here)).later c.switch.ensures.run.beyond

pub returns-clause-all : goal.returns-clause-all
returns-clause-all g c =
    let d = g.D.Device.model c.args.disk.now in
    let mid = g.D.Device.model c.place_pages.new.disk in
    let new = g.D.Device.model c.switch.new.disk in
    let meta = c.args.found.now.meta in
    let touched = get nat_cmp c.args.found.now.touched in
    on_ok c.switch.result ((said : Meta) (s : FileState) (b : List ℕ) → IsHere d c.args.found.now.turn said meta touched s → d.told ≡ Some b → WritesAll d.clock b meta touched new)
    (λ said s b here told.
    let written = c.in_ok-place_pages.ensures.written b told in
    all_written d.clock b meta touched mid new written (c.switch.ensures.moments said touched s (c.in_ok-place_pages.ensures.placed said s here)).later c.switch.ensures.run.beyond
    (c.switch.ensures.run.few written.tells))
