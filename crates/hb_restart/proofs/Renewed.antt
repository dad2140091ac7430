-- A file that was found goes on to open while its touched pages are written to their places, and until its next turn may begin.
use Rattle.std.proofs.Common.{◌≡◌, inl, inr, ℕ, ◌+◌, ◌*◌, ◌-◌, ◌≤◌, List, take, drop, Option, Some, None, IfSome, Result, sym, ◌∙◌, subst, arith}
use Rattle.std.proofs.lemmas.Bool.{cases_eq}
use Rattle.hb_space.specs.declared.form.TheConstants.{PAGE}
use Rattle.hb_disk.specs.Model.{DiskModel, IsDisk, Torn}
use Rattle.hb_disk.specs.Calls.{Ticks, Leaves, Becomes, IsSynced}
use Rattle.hb_disk.proofs.Facts.RunLaws.{Leaves-start, Leaves-call, Leaves-weaker}
use Rattle.hb_lemmas.proofs.Options.{at_value}
use Rattle.hb_disk.proofs.Facts.SyncedLaws.{IsSynced-elsewhere, told_elsewhere}
use Rattle.hb_frag.specs.declared.pages.Page.{Page}
use Rattle.hb_frag.specs.Grammar.{SpellsPage}
use Rattle.hb_layout.specs.Offsets.{slot_offset, page_offset}
use Rattle.hb_super.specs.Superblocks.{IsNewest, next_turn}
use Rattle.hb_super.specs.Moments.{HidesNoOther, ClearLeaves}
use Rattle.hb_layout.specs.declared.meta.Meta.{Meta}
use Rattle.hb_ops.specs.Files.{FileState, page_of}
use Rattle.hb_store.specs.Opening.{IsPageIn, place_bytes}
use Rattle.hb_store.specs.Turning.{StillOpens, IsHere, IsPlaced, IsPlacedTo, MayTurn}
use Rattle.hb_store.proofs.Facts.Turned.{areas, now_has, still_place, still_torn}
use Rattle.hb_ops.proofs.Facts.FilePages.{page_in_range}
use Rattle.hb_store.proofs.Facts.PlaceWrites.{Tore, other_place, tore}
use Rattle.hb_disk.proofs.Facts.RewriteLaws.{Becomes-tells}

module _ (turn next : ℕ) (said meta : Meta) (small : turn ≤ 3) (is : next ≡ next_turn turn) (touched : ℕ → Option Page) (s : FileState) where
  -- with a page's place torn, where the log has the page
  pub still_placed : (b c : List ℕ) (at : ℕ) → 1 ≤ at → (touched at ≡ None → ⊥) → StillOpens turn said meta touched s b → Torn (page_offset meta at) PAGE b c → StillOpens turn said meta touched s c
  still_placed b c at first some opens torn =
      still_torn turn next said meta small is touched s b c (page_offset meta at) PAGE (omega arith) opens torn (inl (let h = (areas turn next meta small is).high in omega (arith, h)))
      (λ id least none. other_place meta id at least first (λ same. some (let T : ℕ → Type 0 = λ n. touched n ≡ None in subst T same none)))

  -- with the body in the place of the next turn torn, and the old superblock the newest
  pub still_cleared : (d : DiskModel) → ((b : List ℕ) → d.Image b → StillOpens turn said meta touched s b) → (c : List ℕ) → ClearLeaves d turn said next c → StillOpens turn said meta touched s c
  still_cleared d opens c left =
      still_place turn next said meta small is touched s left.base c (slot_offset next + 1) 40 (let h = (areas turn next meta small is).place in omega (arith, h)) (opens left.base left.image) left.elsewhere left.newest

  -- the page that the log has is the file's
  the_page : (b : List ℕ) → StillOpens turn said meta touched s b → (id : ℕ) (page : Page) → page_of s id ≡ Some page → (o : Option Page) → touched id ≡ o → IsPageIn b meta id o page
  the_page b opens id page is o is_touched =
      let O : Option Page → Type 0 = λ x. IsPageIn b said id x page in
      same_place o (subst O (opens.touched_is id ∙ is_touched) (opens.by.shows.each id page is))
    where
      -- the layout is the same, so its place is
      same_place : (o : Option Page) → IsPageIn b said id o page → IsPageIn b meta id o page
      same_place None there = let S : ℕ → Type 0 = λ n. SpellsPage (take 4096 (drop (8192 + 2 * n + 4096 * (id - 1)) b)) page in subst S (sym opens.layout.log) there
      same_place (Some touched) there = there

  -- a page that is written to its place
  module _ {T E : Type 0} (r : Result T E) (old new : DiskModel) (is_old : IsDisk old) (here : IsHere old turn said meta touched s) (at : ℕ) (first : 1 ≤ at)
      (some : touched at ≡ None → ⊥) (ticks : Ticks r old new) (run : Becomes (Torn (page_offset meta at) PAGE) old new) where
    placed_images : (c : List ℕ) → new.Image c → StillOpens turn said meta touched s c
    placed_images c image = let was = run.crash c image in still_placed was.0 c at first some (here.images was.0 was.1) was.2

    pub placed_moments : Leaves old new (StillOpens turn said meta touched s)
    placed_moments = Leaves-call r old old new (StillOpens turn said meta touched s) (Leaves-start old (StillOpens turn said meta touched s) is_old here.images) ticks placed_images

    placed_here : IsHere new turn said meta touched s
    placed_here = record {
      told = Becomes-tells (Torn (page_offset meta at) PAGE) old new run here.told;
      images = placed_images;
      places = IsSynced-elsewhere old new 0 8192 (page_offset meta at) PAGE (inl (omega arith)) run here.places;
    }

    -- those before it stand as they stood
    pub placed_there : (q : Page) → touched at ≡ Some q → ((b : List ℕ) → new.told ≡ Some b → SpellsPage (place_bytes meta at b) q)
        → (before : ℕ) → before + 1 ≡ at → IsPlacedTo before old turn said meta touched s → IsPlacedTo at new turn said meta touched s
    placed_there q is_q there before is_at placed = record {
      here = placed_here;
      there = λ id page most is. elim (cases_eq id at) [
        | inl same ↦
            let I : ℕ → Type 0 = λ n. page_of s n ≡ Some page in
            let page_is : q ≡ page = the_page tears.before (here.images tears.before (is_old.as_read tears.before tears.was)) at page (subst I same is) (Some q) is_q in
            let S : Page → Type 0 = λ x. (b : List ℕ) → new.told ≡ Some b → SpellsPage (place_bytes meta at b) x in
            let N : ℕ → Type 0 = λ n. (b : List ℕ) → new.told ≡ Some b → SpellsPage (place_bytes meta n b) page in
            subst N (sym same) (subst S page_is there)
        | inr other ↦ λ b told.
            let S : List ℕ → Type 0 = λ l. SpellsPage l page in
            subst S (sym (told_elsewhere old new tears.before b (page_offset meta id) PAGE (page_offset meta at) PAGE tears.was told (other_place meta id at (page_in_range s.pages id page is).0 first other) run))
            (placed.there id page (omega (arith, most, other, is_at)) is tears.before tears.was)
      ];
    }
      where
        tears : Tore old new (page_offset meta at) PAGE
        tears = tore old new (page_offset meta at) PAGE here.told run

  -- a page that the log doesn't touch stands there
  pub placed_untouched : (d : DiskModel) → IsDisk d → (at before : ℕ) → before + 1 ≡ at → touched at ≡ None → IsPlacedTo before d turn said meta touched s → IsPlacedTo at d turn said meta touched s
  placed_untouched d is_disk at before is_at none placed = record {
    here = placed.here;
    there = λ id page most is b told. elim (cases_eq id at) [
      | inl same ↦
          let N : ℕ → Type 0 = λ n. touched n ≡ None in
          the_page b (placed.here.images b (is_disk.as_read b told)) id page is None (subst N (sym same) none)
      | inr other ↦ placed.there id page (omega (arith, most, other, is_at)) is b told
    ];
  }

  -- no page has the number 0
  pub placed_none : (d : DiskModel) → IsHere d turn said meta touched s → IsPlacedTo 0 d turn said meta touched s
  placed_none d here = record {
    here = here;
    there = λ id page most is b told. let range = page_in_range s.pages id page is in absurd (omega (arith, most, range.0));
  }

  -- What the place of the next turn hides is cleared.
  module _ (old new : DiskModel) (is_old : IsDisk old) (is_new : IsDisk new) (placed : IsPlaced old turn said meta touched s) (run : Becomes (Torn (slot_offset next + 1) 40) old new)
      (moments : IfSome old.told (λ b. IsNewest b turn said → Leaves old new (ClearLeaves old turn said next))) where
    clears : Tore old new (slot_offset next + 1) 40
    clears = tore old new (slot_offset next + 1) 40 placed.here.told run

    pub cleared_moments : Leaves old new (StillOpens turn said meta touched s)
    cleared_moments =
        Leaves-weaker old new (ClearLeaves old turn said next) (StillOpens turn said meta touched s) (still_cleared old placed.here.images)
        (at_value old.told (λ b. IsNewest b turn said → Leaves old new (ClearLeaves old turn said next)) clears.before clears.was moments (placed.here.images clears.before (is_old.as_read clears.before clears.was)).by.newest)

    -- the place of a page
    same_place_bytes : (b : List ℕ) → new.told ≡ Some b → (id : ℕ) → place_bytes meta id b ≡ place_bytes meta id clears.before
    same_place_bytes b told id =
        let h = (areas turn next meta small is).place in
        told_elsewhere old new clears.before b (page_offset meta id) PAGE (slot_offset next + 1) 40 clears.was told (inr (omega (arith, h))) run

    pub cleared_may : IfSome new.told (λ b. HidesNoOther b next meta) → IsSynced new 0 8192 → MayTurn new turn said meta touched s
    cleared_may hidden synced = record {
      placed = record {
        here = record {
          told = Becomes-tells (Torn (slot_offset next + 1) 40) old new run placed.here.told;
          images = now_has old new (StillOpens turn said meta touched s) is_new cleared_moments;
          places = synced;
        };
        there = λ id page most is b told. let S : List ℕ → Type 0 = λ l. SpellsPage l page in
            subst S (sym (same_place_bytes b told id)) (placed.there id page most is clears.before clears.was);
      };
      hides = λ b told. let N : ℕ → Type 0 = λ n. HidesNoOther b n meta in subst N is (at_value new.told (λ b. HidesNoOther b next meta) b told hidden);
    }
