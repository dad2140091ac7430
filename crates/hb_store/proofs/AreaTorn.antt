-- A log area that was torn: what stands outside it, and what the bytes open to by the frames that it has then.
use Rattle.std.proofs.Common.{◌≡◌, inr, ℕ, ◌+◌, ◌*◌, ◌%◌, ◌≤◌, List, [], ◌∷◌, ◌++◌, flat_map, take, drop, All, Option, Some, None, refl, sym, subst, arith}
use Rattle.std.proofs.Math.Nat.{mul-le-mul_right}
use Rattle.std.proofs.lemmas.List.{append-nil}
use Rattle.hb_space.specs.declared.form.TheConstants.{PAGE}
use Rattle.hb_disk.specs.Model.{Torn}
use Rattle.hb_disk.proofs.Facts.TornLaws.{Torn-elsewhere}
use Rattle.hb_wal.specs.Frames.{HasFrames}
use Rattle.hb_frag.specs.declared.pages.Page.{Page}
use Rattle.hb_frag.specs.Grammar.{SpellsPage}
use Rattle.hb_layout.specs.declared.meta.Meta.{Meta}
use Rattle.hb_super.proofs.Facts.Gates.{newest_same}
use Rattle.hb_ops.specs.Files.{FileState, last_of}
use Rattle.hb_log_codec.specs.Groups.{Logged, FitsGroup, group_bytes}
use Rattle.hb_store.specs.Replay.{Replayed, untouched, replay}
use Rattle.hb_layout.specs.Offsets.{log_start, page_offset}
use Rattle.hb_store.specs.Opening.{OpensBy, Shows, IsPageIn, log_bytes, place_bytes, SpellAll}
use Rattle.hb_store.specs.Parts.{Leads, OpensNext}
use Rattle.hb_store.proofs.Facts.ReplayLaws.{replay-append, Leads-replayed, MayReplay-append, SpellAll-append}
use Rattle.hb_store.proofs.Shown.{Shows-leads}
use Rattle.hb_store.proofs.Facts.FreshLaws.{places_kept}

-- the area of a turn ends in front of the pages
pub area_end : (turn : ℕ) (said : Meta) → log_start turn said + said.log ≤ 8192 + 2 * said.log
area_end turn said =
    let one : turn % 2 ≤ 1 = omega arith in
    omega (arith, mul-le-mul_right said.log one)

-- groups are spelled by one payload, their bytes
all_spelled : (k : ℕ) (gs : List Logged) → All (FitsGroup k) gs → SpellAll k (flat_map group_bytes gs ∷ []) gs
all_spelled k gs fits = (gs, [], sym (append-nil gs), record { fits = fits; bytes_are = refl }, refl)

module _ (turn : ℕ) (said : Meta) (b c : List ℕ) (torn : Torn (log_start turn said) said.log b c) where
  pub front_kept : take 8192 (drop 0 c) ≡ take 8192 (drop 0 b)
  front_kept = places_kept (log_start turn said) said.log b c (omega arith) torn

  pub page_kept : (id : ℕ) → place_bytes said id c ≡ place_bytes said id b
  page_kept id = Torn-elsewhere (log_start turn said) said.log (page_offset said id) PAGE b c (inr (omega (arith, area_end turn said))) torn

  pub spelled_kept : (id : ℕ) (page : Page) → SpellsPage (place_bytes said id b) page → SpellsPage (place_bytes said id c) page
  spelled_kept id page spells = let Q : List ℕ → Type 0 = λ l. SpellsPage l page in subst Q (sym (page_kept id)) spells

  pub shows_kept : (t : Replayed) (s : FileState) → Shows b said t s → Shows c said t s
  shows_kept t s shows = record {
    meta = shows.meta;
    count = shows.count;
    each = λ id page is. page_in id page (t.page id) (shows.each id page is);
  }
    where
      page_in : (id : ℕ) (page : Page) (o : Option Page) → IsPageIn b said id o page → IsPageIn c said id o page
      page_in id page None spells = spelled_kept id page spells
      page_in id page (Some touched) same = same

  module _ (payloads : List (List ℕ)) (groups : List Logged) (s : FileState) (opens : OpensBy b turn said payloads groups s) where
    -- with the same frames to the same file
    pub opens_same : HasFrames (log_bytes turn said c) payloads → OpensBy c turn said payloads groups s
    opens_same framed = record {
      newest = newest_same b c front_kept turn said opens.newest;
      fits = omega (arith, opens.fits, torn.as_long);
      log = record { framed = framed; spelled = opens.log.spelled; replayed = opens.log.replayed };
      shows = shows_kept (replay (untouched said) groups) s opens.shows;
    }

    -- with a frame more to the file after its groups
    pub opens_more : (gs : List Logged) (later : List FileState) → HasFrames (log_bytes turn said c) (payloads ++ flat_map group_bytes gs ∷ []) → All (FitsGroup said.k) gs
        → Leads (replay (untouched said) groups) s gs later → OpensNext c turn said payloads groups gs (last_of s later)
    opens_more gs later framed fits leads = record {
      newest = newest_same b c front_kept turn said opens.newest;
      fits = omega (arith, opens.fits, torn.as_long);
      log = record {
        framed = framed;
        spelled = SpellAll-append said.k payloads (flat_map group_bytes gs ∷ []) groups gs opens.log.spelled (all_spelled said.k gs fits);
        replayed = MayReplay-append (untouched said) groups gs opens.log.replayed (Leads-replayed (replay (untouched said) groups) s gs later leads);
      };
      shows =
          let Q : Replayed → Type 0 = λ t. Shows c said t (last_of s later) in
          subst Q (sym (replay-append (untouched said) groups gs))
          (Shows-leads c said (replay (untouched said) groups) s gs later (shows_kept (replay (untouched said) groups) s opens.shows) leads);
    }
