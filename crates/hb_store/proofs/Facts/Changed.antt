-- What an allowed operation makes of the pages in memory is good for the file afterwards.
use Rattle.std.proofs.Common.{◌≡◌, ℕ, ◌+◌, ◌*◌, get_or, All, Option, sym, subst, arith}
use Rattle.hb_space.specs.declared.form.TheConstants.{PAGE}
use Rattle.hb_frag.specs.declared.pages.LivePage.{LivePage}
use Rattle.hb_frag.specs.declared.pages.Page.{Page}
use Rattle.hb_frag.specs.declared.pages.Page.TheVariants.{Live, Free}
use Rattle.hb_frag.specs.Rules.{IsFilledRight}
use Rattle.hb_layout.specs.declared.meta.Meta.{Meta}
use Rattle.hb_layout.specs.Offsets.{file_size}
use Rattle.hb_ops.specs.declared.operations.Op.{Op}
use Rattle.hb_ops.specs.Files.{if_live}
use Rattle.hb_ops.specs.Operations.{reads_of}
use Rattle.hb_ops.specs.Sound.{FitsFile}
use Rattle.hb_store.specs.States.{AreGood, IsGoodPage, IsMemory, IsSameLayout, IsStanding, StoreState, in_memory}
use Rattle.hb_store.specs.Calls.{IsAllowedHere}
use Rattle.hb_store.specs.Making.{AreReadable, HaveFittingParts, IsReadable, MakesGoodChanges, MakesGoodPages, PartsFitOnGoodPages}
use Rattle.hb_store.specs.Replay.{change_in, touched_read}
use Rattle.hb_ops.proofs.Facts.PageNumberLaws.{live_so}
use Rattle.hb_store.specs.Replaying.{ComesAfter, HasLimits, IsPageOf}
use Rattle.hb_ops.proofs.Facts.AllowedOps.{high_next, read_by, reads_some}
use Rattle.hb_store.proofs.Facts.Grouped.{good_spelled}
use Rattle.hb_store.proofs.Facts.MadeMeta.{comes_after, made_numbered}
use Rattle.hb_lemmas.proofs.Options.{some_value}

pub limits_of : (turn : ℕ) (meta : Meta) → IsStanding turn meta → HasLimits meta
limits_of turn meta stands = record { layout = stands.layout; root_fits = stands.root_fits; free_fits = stands.free_fits }

pub same_size : (old new : Meta) → IsSameLayout old new → file_size new ≡ file_size old
same_size old new same = λ i. 2 * PAGE + 2 * same.log i + PAGE * same.pages i

pub still_stands : (turn : ℕ) (old new : Meta) → ComesAfter old new → IsStanding turn old → IsStanding turn new
still_stands turn old new after stands = record {
  turn_fits = stands.turn_fits;
  layout = after.limits.layout;
  some = omega (arith, stands.some, after.rises);
  high = after.high stands.high;
  live = after.live stands.live;
  root_fits = after.limits.root_fits;
  free_fits = after.limits.free_fits;
}

still_fits : (old new : Meta) → ComesAfter old new → (page : LivePage) → FitsFile old page → FitsFile new page
still_fits old new after page fits = record {
  fits = record {
    level = omega (arith, fits.fits.level, after.grows);
    attributes = omega (arith, fits.fits.attributes, after.layout.k);
  };
  well_cut = fits.well_cut;
  filled = subst (λ (n : ℕ). IsFilledRight page new.dcap n) (sym after.layout.icap) (subst (λ (n : ℕ). IsFilledRight page n old.icap) (sym after.layout.dcap) fits.filled);
  in_order = fits.in_order;
  normal = fits.normal;
}

-- a good page stays good behind a change
still_good : (old new : Meta) → ComesAfter old new → (page : Page) → IsGoodPage old page → IsGoodPage new page
still_good old new after (Live page) good = (good.0, still_fits old new after page good.1)
still_good old new after (Free next) good = good

good_readable : (meta : Meta) (page_in : ℕ → Option Page) → AreGood meta page_in → (id : ℕ) → IsReadable (if_live (page_in id))
good_readable meta page_in good id page is = good_spelled meta (Live page) (good id (Live page) (live_so (page_in id) page is)).2

-- so can those that an operation reads
reads_readable : (meta : Meta) (page_in : ℕ → Option Page) → AreGood meta page_in → (op : Op) → AreReadable (read_by page_in op 0) (read_by page_in op 1) (read_by page_in op 2)
reads_readable meta page_in good op =
    let one = λ (place : ℕ). good_readable meta page_in good (get_or (reads_of op) place 0) in
    (one 0, one 1, one 2)

-- what an allowed operation reads is of the file
pub reads_numbered : (st : StoreState) → IsMemory st → (op : Op) → IsAllowedHere st op → All (IsPageOf st.meta) (reads_of op)
reads_numbered st is op allowed i d lt =
    let id = get_or (reads_of op) i d in
    let page = some_value (in_memory st id) (reads_some op st.meta (in_memory st) allowed i d lt) in
    let at = is.good id page.0 page.1 in
    (at.0, at.1)

-- what it makes of good pages is good for the file afterwards
pub good_change : MakesGoodPages → MakesGoodChanges
good_change makes t op limits good fits allowed match =
    let meta = t.meta in
    let first = touched_read t op 0 in
    let second = touched_read t op 1 in
    let third = touched_read t op 2 in
    let after = comes_after op meta first second third limits fits allowed in
    let reads : All (IsPageOf meta) (reads_of op) = λ i d lt.
    let id = get_or (reads_of op) i d in
    let page = some_value (t.page id) (reads_some op meta t.page allowed i d lt) in
    let at = good id page.0 page.1 in
    (at.0, at.1) in
    let numbered = made_numbered op meta first second third allowed reads in
    let made = makes op meta first second third limits fits allowed (reads_readable meta t.page good op) match in
    record {
      after = after;
      next = high_next op meta first second third allowed;
      others = still_good meta (change_in t op).meta after;
      pages = λ i d lt. (numbered i d lt, made i d lt);
    }

pub parts_fit : HaveFittingParts → PartsFitOnGoodPages
parts_fit parts t op limits good allowed = parts op t.meta (touched_read t op 0) (touched_read t op 1) (touched_read t op 2) limits allowed (reads_readable t.meta t.page good op)
