-- What follows of groups that are replayed: one after the other, and what they make of a file.
use Rattle.std.proofs.Common.{◌≡◌, ℕ, ◌≤◌, List, [], ◌∷◌, ◌++◌, length, replicate, Option, Some, None, refl, sym, ap, ◌∙◌, subst, arith, append_assoc}
use Rattle.std.proofs.lemmas.List.Elements.{All-nil}
use Rattle.hb_frag.specs.declared.pages.Page.{Page}
use Rattle.hb_frag.specs.Grammar.{SpellsPage}
use Rattle.hb_wal.proofs.Facts.AreaBytes.{end_zeros}
use Rattle.hb_wal.specs.Frames.{HasFrames, IsPayload}
use Rattle.hb_super.specs.Superblocks.{IsNewest}
use Rattle.hb_layout.specs.declared.meta.Meta.{Meta}
use Rattle.hb_ops.specs.Files.{FileState, page_of, last_of}
use Rattle.hb_ops.specs.Operations.{IsAllowed, IsLicensed, effect_of}
use Rattle.hb_log_codec.specs.Groups.{Logged}
use Rattle.hb_store.specs.Replay.{Replayed, untouched, after_group, MayFollow, replay, MayReplay}
use Rattle.hb_layout.specs.Offsets.{file_size}
use Rattle.hb_store.specs.Opening.{IsPageIn, OpensBy, log_bytes, place_bytes, SpellAll}
use Rattle.hb_store.specs.Parts.{ArePageImagesOf, Leads}
use Rattle.std.proofs.lemmas.List.Sums.{fold-append}

-- groups after groups
pub replay-append : (t : Replayed) (xs ys : List Logged) → replay t (xs ++ ys) ≡ replay (replay t xs) ys
replay-append t xs ys = fold-append after_group t xs ys

pub MayReplay-append : (t : Replayed) (xs ys : List Logged) → MayReplay t xs → MayReplay (replay t xs) ys → MayReplay t (xs ++ ys)
MayReplay-append t [] ys front behind = behind
MayReplay-append t (g ∷ xs) ys front behind = (front.0, MayReplay-append (after_group t g) xs ys front.1 behind)

pub MayReplay-front : (t : Replayed) (xs ys : List Logged) → MayReplay t (xs ++ ys) → MayReplay t xs
MayReplay-front t [] ys all = tt
MayReplay-front t (g ∷ xs) ys all = (all.0, MayReplay-front (after_group t g) xs ys all.1)

pub MayReplay-back : (t : Replayed) (xs ys : List Logged) → MayReplay t (xs ++ ys) → MayReplay (replay t xs) ys
MayReplay-back t [] ys all = all
MayReplay-back t (g ∷ xs) ys all = MayReplay-back (after_group t g) xs ys all.1

pub SpellAll-append : (k : ℕ) (ps qs : List (List ℕ)) (xs ys : List Logged) → SpellAll k ps xs → SpellAll k qs ys → SpellAll k (ps ++ qs) (xs ++ ys)
SpellAll-append k [] qs xs ys front behind =
    let Q : List Logged → Type 0 = λ l. SpellAll k qs (l ++ ys) in
    subst Q (sym front) behind
SpellAll-append k (p ∷ ps) qs xs ys front behind =
    (front.0, front.1 ++ ys, ap (λ (l : List Logged). l ++ ys) front.2 ∙ append_assoc front.0 front.1 ys, front.3, SpellAll-append k ps qs front.1 ys front.4 behind)

pub Leads-replayed : (t : Replayed) (s : FileState) (gs : List Logged) (later : List FileState) → Leads t s gs later → MayReplay t gs
Leads-replayed t s [] later leads = tt
Leads-replayed t s (g ∷ gs) [] leads = absurd leads
Leads-replayed t s (g ∷ gs) (next ∷ later) leads = (leads.0, Leads-replayed (after_group t g) next gs later leads.5)

-- one group more
pub Leads-append : (t : Replayed) (s : FileState) (gs : List Logged) (later : List FileState) (g : Logged) → Leads t s gs later → MayFollow (replay t gs) g
    → ArePageImagesOf (last_of s later) g.images → IsAllowed (last_of s later) g.op → IsLicensed (last_of s later) g.op
    → Leads t s (gs ++ g ∷ []) (later ++ effect_of (last_of s later) g.op ∷ [])
Leads-append t s [] [] g leads may are allowed licensed = (may, are, allowed, licensed, refl, refl)
Leads-append t s [] (next ∷ later) g leads may are allowed licensed = cc leads
Leads-append t s (f ∷ gs) [] g leads may are allowed licensed = absurd leads
Leads-append t s (f ∷ gs) (next ∷ later) g leads may are allowed licensed =
    (leads.0, leads.1, leads.2, leads.3, leads.4, Leads-append (after_group t f) next gs later g leads.5 may are allowed licensed)

-- bytes that are the same at the superblock, the log area of the turn and the places of untouched pages open to the same file
pub opens_elsewhere : (b c : List ℕ) (turn : ℕ) (said : Meta) (payloads : List (List ℕ)) (groups : List Logged) (s : FileState) → OpensBy b turn said payloads groups s
    → IsNewest c turn said → length c ≡ length b → log_bytes turn said c ≡ log_bytes turn said b
    → ((id : ℕ) (page : Page) → page_of s id ≡ Some page → (replay (untouched said) groups).page id ≡ None → place_bytes said id c ≡ place_bytes said id b)
    → OpensBy c turn said payloads groups s
opens_elsewhere b c turn said payloads groups s opens newest long same_log same_places = record {
  newest = newest;
  fits = omega (arith, opens.fits, long);
  log = let Q : List ℕ → Type 0 = λ l. HasFrames l payloads in record { framed = subst Q (sym same_log) opens.log.framed; spelled = opens.log.spelled; replayed = opens.log.replayed };
  shows = record {
    meta = opens.shows.meta;
    count = opens.shows.count;
    each = λ id page is. page_in id page is ((replay (untouched said) groups).page id) refl (opens.shows.each id page is);
  };
}
  where
    page_in : (id : ℕ) (page : Page) → page_of s id ≡ Some page → (o : Option Page) → (replay (untouched said) groups).page id ≡ o → IsPageIn b said id o page → IsPageIn c said id o page
    page_in id page is None none spells =
        let Q : List ℕ → Type 0 = λ l. SpellsPage l page in
        subst Q (sym (same_places id page is none)) spells
    page_in id page is (Some touched) some same = same

pub opens_fresh : (c : List ℕ) (turn : ℕ) (meta : Meta) (s : FileState) → IsNewest c turn meta → file_size meta ≤ length c → log_bytes turn meta c ≡ replicate meta.log 0
    → s.meta ≡ meta → length s.pages ≡ meta.high → ((id : ℕ) (page : Page) → page_of s id ≡ Some page → SpellsPage (place_bytes meta id c) page)
    → OpensBy c turn meta [] [] s
opens_fresh c turn meta s newest long zeros meta_is count pages = record {
  newest = newest;
  fits = long;
  log = record {
    framed = record {
      payloads_fit = All-nil IsPayload;
      rest = replicate meta.log 0;
      bytes = zeros;
      at_end = end_zeros meta.log;
    };
    spelled = refl;
    replayed = tt;
  };
  shows = record {
    meta = meta_is;
    count = count;
    each = pages;
  };
}
