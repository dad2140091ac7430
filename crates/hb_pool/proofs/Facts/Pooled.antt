-- What a pool keeps is kept where a page's frame is put last, is changed in its place, or comes in.
use Rattle.std.proofs.Common.{◌≡◌, ℕ, ◌+◌, ◌-◌, ◌<◌, ◌≤◌, ◌==◌, nat_lt, Bool, true, false, not, ◌||◌, cond, List, [], ◌∷◌, ◌++◌, length, All, map, Some, None, IsSome, refl, sym, ap, subst, ◌∙◌, arith, length-append, ne_eqb}
use Rattle.std.specs.List.{find, count_by, position_or_len}
use Rattle.std.specs.Option.{option_to_list, unwrap_or, option_map}
use Rattle.std.specs.Set.{remove_key}
use Rattle.std.proofs.lemmas.Bool.{eq-eqb, not-true}
use Rattle.std.proofs.lemmas.List.Elements.{All-append, All-nil}
use Rattle.std.proofs.lemmas.List.Sums.{sum_by_push, count_by-le-length}
use Rattle.std.proofs.lemmas.Map.Views.{All-remove_key}
use Rattle.std.proofs.lemmas.Map.Made.{sum_by-remove_key}
use Rattle.hb_lemmas.proofs.Booleans.{if_below, if_same, one_at_most}
use Rattle.hb_lemmas.proofs.Lists.{All-alone}
use Rattle.hb_lemmas.proofs.Options.{some_value}
use Rattle.hb_space.specs.declared.form.TheConstants.{PAGE}
use Rattle.hb_pool.specs.declared.pools.TheConstants.{FRAMES}
use Rattle.hb_pool.specs.Frames.{Frame, has_id, must_stay, may_go, fresh}
use Rattle.hb_pool.specs.Pools.{frame_of, put_last, in_place, with_room, brought, places, IsPool, HaveWholePages}
use Rattle.hb_pool.specs.Laws.{StaysPool, StaysPoolWithAnother, CountsPlaces, CountsPlacesWithAnother}
use Rattle.hb_pool.specs.Kept.{FramesKeep}
use Rattle.hb_pool.proofs.Facts.Firsts.{first_passes, first_there, first_within, length_without, count_without, length_changed, count_changed, All-changed, some_fails, none_counted, alone_first}

-- one for a test that passes, and none for the other way round
one_way : (b : Bool) → cond (not b) 1 0 + cond b 1 0 ≡ 1
one_way true = refl
one_way false = refl

-- a frame that is pinned, or dirty, must stay
pub pinned_stays : {B : Type 0} (f : Frame B) → 0 < f.pins → must_stay f ≡ true
pinned_stays f some =
    let apart : f.pins ≡ 0 → ⊥ = λ e. omega arith in
    elim f.dirty as (λ b. (b || not (f.pins == 0)) ≡ true) [
      | true ↦ refl
      | false ↦ ap not (ne_eqb f.pins 0 apart)
    ]

pub dirty_stays : {B : Type 0} (f : Frame B) → f.dirty ≡ true → must_stay f ≡ true
dirty_stays f is = ap (λ b. b || not (f.pins == 0)) is

or_false : (b : Bool) → (b || not (0 == 0)) ≡ b
or_false true = refl
or_false false = refl

count_push : {B : Type 0} (q : Frame B → Bool) (xs : List (Frame B)) (f : Frame B) → count_by q (xs ++ f ∷ []) ≡ count_by q xs + cond (q f) 1 0
count_push {B = B} q xs f = sum_by_push (λ (y : Frame B). cond (q y) 1 0) xs f

-- frames whose numbers are the same count the same
same_ids : {B : Type 0} (k : ℕ) (f g : Frame B) → f.id ≡ g.id → cond {A = ℕ} (has_id k f) 1 0 ≡ cond (has_id k g) 1 0
same_ids k f g e = ap (λ (i : ℕ). cond {A = ℕ} (i == k) 1 0) e

-- ---- pools

pub empty_pool : {B : Type 0} → IsPool {B = B} []
empty_pool {B = B} = record { few = omega arith; distinct = λ id. omega arith; pins = All-nil (λ (f : Frame B). f.pins ≤ 255) }

last_pool : {B : Type 0} (pool : List (Frame B)) (id : ℕ) (f g : Frame B) → IsPool pool → frame_of pool id ≡ Some f → g.id ≡ f.id → g.pins ≤ 255 → IsPool (remove_key (has_id id) pool ++ g ∷ [])
last_pool {B = B} pool id f g old is same few_pins =
    let rest = remove_key (has_id id) pool in
    let long = length_without (has_id id) pool f is in
    let joined = length-append rest (g ∷ []) in
    let P : Frame B → Type 0 = λ h. h.pins ≤ 255 in
    record {
      few = let few = old.few in omega (arith, long, joined, few);
      distinct = λ k. let counted = count_without (has_id id) (has_id k) pool f is in let pushed = count_push (has_id k) rest g in let one = same_ids k g f same in let most = old.distinct k in omega (arith, counted, pushed, one, most);
      pins = All-append P rest (g ∷ []) (All-remove_key (has_id id) P pool old.pins) (All-alone P g few_pins);
    }

pub put_last_pool : {B : Type 0} → StaysPool {B = B} put_last
put_last_pool pool id change f old is same few_pins =
    subst (λ o. IsPool (remove_key (has_id id) pool ++ map change (option_to_list o))) (sym is) (last_pool pool id f (change f) old is same few_pins)

pub in_place_pool : {B : Type 0} → StaysPool {B = B} in_place
in_place_pool pool id change f old is same few_pins = record {
  few = let long = length_changed (has_id id) change pool f is in let few = old.few in omega (arith, long, few);
  distinct = λ k. let counted = count_changed (has_id id) (has_id k) change pool f is in let one = same_ids k (change f) f same in let most = old.distinct k in omega (arith, counted, one, most);
  pins = All-changed (has_id id) (λ h. h.pins ≤ 255) change pool f is old.pins few_pins;
}

-- one may go where there is a place, and no frame is empty
free_there : {B : Type 0} (pool : List (Frame B)) → 0 < places pool → FRAMES ≤ length pool → IsSome (find may_go pool)
free_there pool place all = some_fails must_stay pool (omega arith)

-- what is left where a frame is to be empty
record IsLeft {B : Type 0} (pool left : List (Frame B)) : Type 0 where
  long : length left + 1 + (FRAMES - length pool - 1) ≡ FRAMES
  fewer : (q : Frame B → Bool) → count_by q left ≤ count_by q pool
  stays : count_by must_stay left ≡ count_by must_stay pool
  pins : All (λ f. f.pins ≤ 255) left

left_over : {B : Type 0} (pool : List (Frame B)) → IsPool pool → 0 < places pool → IsLeft pool (with_room pool)
left_over pool old place =
    let few = old.few in
    if_below (length pool) FRAMES (λ b. IsLeft pool (cond b pool (remove_key may_go pool)))
    (λ some. record { long = omega arith; fewer = λ q. omega arith; stays = refl; pins = old.pins })
    (λ none.
    let first = some_value (find may_go pool) (free_there pool place none) in
    let long = length_without may_go pool first.0 first.1 in
    let free = not-true (must_stay first.0) (first_passes may_go pool first.0 first.1) in
    let less = count_without may_go must_stay pool first.0 first.1 in
    let gone : cond {A = ℕ} (must_stay first.0) 1 0 ≡ 0 = ap (λ b. cond {A = ℕ} b 1 0) free in
    record {
      long = omega (arith, long, none, few);
      fewer = λ q. let counted = count_without may_go q pool first.0 first.1 in omega (arith, counted);
      stays = omega (arith, less, gone);
      pins = All-remove_key may_go (λ f. f.pins ≤ 255) pool old.pins;
    })

pub brought_pool : {B : Type 0} → StaysPoolWithAnother B
brought_pool {B = B} pool id bytes dirty old absent place =
    let g : Frame B = fresh id bytes dirty in
    let P : Frame B → Type 0 = λ h. h.pins ≤ 255 in
    let left = with_room pool in
    let rest = left_over pool old place in
    let long = rest.long in
    let joined : length (left ++ g ∷ []) ≡ length left + 1 = length-append left (g ∷ []) in
    record {
      few = omega (arith, long, joined);
      distinct = λ k.
          let more = count_push (has_id k) left g in
          let less = rest.fewer (has_id k) in
          let most = old.distinct k in
          let none : count_by (has_id id) pool ≡ 0 = none_counted (has_id id) pool absent in
          if_same id k (λ b. cond b 1 0 ≡ cond {A = ℕ} (has_id k g) 1 0 → count_by (has_id k) (left ++ g ∷ []) ≤ 1)
          (λ same one. let nothing : count_by (has_id k) pool ≡ 0 = subst (λ n. count_by (has_id n) pool ≡ 0) same none in omega (arith, more, less, nothing, one))
          (λ other one. omega (arith, more, less, most, one)) refl;
      pins = All-append P left (g ∷ []) rest.pins (All-alone P g (omega arith));
    }

-- a page's frame is pinned as seldom as any
pub frame_pins : {B : Type 0} (pool : List (Frame B)) (id : ℕ) (f : Frame B) → IsPool pool → frame_of pool id ≡ Some f → f.pins ≤ 255
frame_pins {B = B} pool id f old is = subst (λ (h : Frame B). h.pins ≤ 255) (first_there (has_id id) pool f f is) (old.pins (position_or_len (has_id id) pool) f (first_within (has_id id) pool f is))

-- and has the bytes of a page
pub frame_page : (pool : List (Frame (List ℕ))) (id : ℕ) (f : Frame (List ℕ)) → HaveWholePages pool → frame_of pool id ≡ Some f → length f.bytes ≡ PAGE
frame_page pool id f whole is = subst (λ (h : Frame (List ℕ)). length h.bytes ≡ PAGE) (first_there (has_id id) pool f f is) (whole (position_or_len (has_id id) pool) f (first_within (has_id id) pool f is))

-- ---- what is kept

-- a frame with the bytes of a page
abbrev IsWhole : Frame (List ℕ) → Type 0
IsWhole f = length f.bytes ≡ PAGE

left_whole : (pool : List (Frame (List ℕ))) → HaveWholePages pool → HaveWholePages (with_room pool)
left_whole pool whole = elim (nat_lt (length pool) FRAMES) as (λ b. HaveWholePages (cond b pool (remove_key may_go pool))) [
  | true ↦ whole
  | false ↦ All-remove_key may_go IsWhole pool whole
]

-- a page that is put last, and must stay there
pub kept_last : (pool items : List (Frame (List ℕ))) (room taken spare held one : ℕ) (id : ℕ) (f g : Frame (List ℕ)) → FramesKeep pool room spare held → frame_of pool id ≡ Some f → items ≡ remove_key (has_id id) pool ++ g ∷ [] → taken ≡ room → one ≡ cond (not (must_stay f)) 1 0 → g.id ≡ f.id → g.pins ≤ 255 → length g.bytes ≡ PAGE → must_stay g ≡ true → FramesKeep items taken spare (held + one)
kept_last pool items room taken spare held one id f g old is new same_room counts same few_pins whole stays =
    let rest = remove_key (has_id id) pool in
    let long = length_without (has_id id) pool f is in
    let joined : length items ≡ length rest + 1 = ap length new ∙ length-append rest (g ∷ []) in
    record {
      pool = subst IsPool (sym new) (last_pool pool id f g old.pool is same few_pins);
      pages = subst HaveWholePages (sym new) (All-append IsWhole rest (g ∷ []) (All-remove_key (has_id id) IsWhole pool old.pages) (All-alone IsWhole g whole));
      blocks = let all = old.blocks in omega (arith, long, joined, all);
      taken = same_room ∙ old.taken;
      counted =
          let counted = old.counted in
          let less = count_without (has_id id) must_stay pool f is in
          let more : count_by must_stay items ≡ count_by must_stay rest + 1 = ap (count_by must_stay) new ∙ count_push must_stay rest g ∙ ap (λ b. count_by must_stay rest + cond b 1 0) stays in
          let other = one_way (must_stay f) in
          omega (arith, counted, less, more, counts, other);
    }

-- a frame that had to stay, changed in its place: it may go now, or not
pub kept_changed : (pool items : List (Frame (List ℕ))) (room spare held one : ℕ) (id : ℕ) (change : Frame (List ℕ) → Frame (List ℕ)) (f : Frame (List ℕ)) → FramesKeep pool room spare held → frame_of pool id ≡ Some f → items ≡ in_place id change pool → one ≡ cond (not (must_stay (change f))) 1 0 → (change f).id ≡ f.id → (change f).pins ≤ 255 → length (change f).bytes ≡ PAGE → must_stay f ≡ true → FramesKeep items room spare (held - one)
kept_changed pool items room spare held one id change f old is new counts same few_pins whole stayed = record {
  pool = subst IsPool (sym new) (in_place_pool pool id change f old.pool is same few_pins);
  pages = subst HaveWholePages (sym new) (All-changed (has_id id) IsWhole change pool f is old.pages whole);
  blocks = let long : length items ≡ length pool = ap length new ∙ length_changed (has_id id) change pool f is in let all = old.blocks in omega (arith, long, all);
  taken = old.taken;
  counted =
      let counted = old.counted in
      let moved : count_by must_stay items + cond (must_stay f) 1 0 ≡ count_by must_stay pool + cond (must_stay (change f)) 1 0 = ap (λ xs. count_by must_stay xs + cond (must_stay f) 1 0) new ∙ count_changed (has_id id) must_stay change pool f is in
      let was : cond {A = ℕ} (must_stay f) 1 0 ≡ 1 = ap (λ b. cond {A = ℕ} b 1 0) stayed in
      let other = one_way (must_stay (change f)) in
      omega (arith, counted, moved, was, counts, other);
}

-- such a frame is counted
pub one_fits : (pool : List (Frame (List ℕ))) (room spare held one : ℕ) (id : ℕ) (f : Frame (List ℕ)) (b : Bool) → FramesKeep pool room spare held → frame_of pool id ≡ Some f → must_stay f ≡ true → one ≡ cond b 1 0 → one ≤ held
one_fits pool room spare held one id f b old is stayed counts =
    let counted = old.counted in
    let less = count_without (has_id id) must_stay pool f is in
    let was : cond {A = ℕ} (must_stay f) 1 0 ≡ 1 = ap (λ b. cond {A = ℕ} b 1 0) stayed in
    let most = one_at_most b in
    omega (arith, counted, less, was, counts, most)

-- ---- a page that comes in

pub room_there : (pool : List (Frame (List ℕ))) (room spare held : ℕ) → FramesKeep pool room spare held → 0 < places pool → spare ≡ 0 → IsSome (find may_go pool)
room_there pool room spare held old place none = let all = old.blocks in free_there pool place (omega arith)

pub kept_brought : (pool items : List (Frame (List ℕ))) (room taken spare spared held one : ℕ) (id : ℕ) (bytes : List ℕ) (dirty : Bool) → FramesKeep pool room spare held → frame_of pool id ≡ None → 0 < places pool → length bytes ≡ PAGE → items ≡ brought id bytes dirty pool → taken ≡ room → spared ≡ spare - 1 → one ≡ cond dirty 1 0 → FramesKeep items taken spared (held + one)
kept_brought pool items room taken spare spared held one id bytes dirty old absent place whole new same_room spares counts =
    let g : Frame (List ℕ) = fresh id bytes dirty in
    let left = with_room pool in
    let rest = left_over pool old.pool place in
    record {
      pool = subst IsPool (sym new) (brought_pool pool id bytes dirty old.pool absent place);
      pages = subst HaveWholePages (sym new) (All-append IsWhole left (g ∷ []) (left_whole pool old.pages) (All-alone IsWhole g whole));
      blocks =
          let long = rest.long in
          let all = old.blocks in
          let joined : length items ≡ length left + 1 = ap length new ∙ length-append left (g ∷ []) in
          omega (arith, long, all, joined, spares);
      taken = same_room ∙ old.taken;
      counted =
          let counted = old.counted in
          let same = rest.stays in
          let more : count_by must_stay items ≡ count_by must_stay left + cond dirty 1 0 = ap (count_by must_stay) new ∙ count_push must_stay left g ∙ ap (λ b. count_by must_stay left + cond b 1 0) (or_false dirty) in
          omega (arith, counted, same, more, counts);
    }

-- ---- places

pub last_counts : {B : Type 0} → CountsPlaces {B = B} put_last
last_counts pool id change f old is =
    let rest = remove_key (has_id id) pool in
    let less = count_without (has_id id) must_stay pool f is in
    let long = length_without (has_id id) pool f is in
    let most = count_by-le-length must_stay rest in
    let few = old.few in
    let once = one_at_most (must_stay f) in
    let fewer = one_at_most (must_stay (change f)) in
    let more = count_push must_stay rest (change f) in
    let counted : FRAMES - count_by must_stay (rest ++ change f ∷ []) + cond (must_stay (change f)) 1 0 ≡ FRAMES - count_by must_stay pool + cond (must_stay f) 1 0 = omega (arith, less, long, most, few, more, once, fewer) in
    subst (λ o. FRAMES - count_by must_stay (rest ++ map change (option_to_list o)) + cond (must_stay (change f)) 1 0 ≡ FRAMES - count_by must_stay pool + cond (must_stay f) 1 0) (sym is) counted

pub place_counts : {B : Type 0} → CountsPlaces {B = B} in_place
place_counts pool id change f old is =
    let moved = count_changed (has_id id) must_stay change pool f is in
    let long = length_changed (has_id id) change pool f is in
    let most = count_by-le-length must_stay (in_place id change pool) in
    let before = count_by-le-length must_stay pool in
    let few = old.few in
    omega (arith, moved, long, most, before, few)

pub brought_counts : {B : Type 0} → CountsPlacesWithAnother B
brought_counts pool id bytes dirty old place =
    let left = with_room pool in
    let same = (left_over pool old place).stays in
    let more : count_by must_stay (left ++ fresh id bytes dirty ∷ []) ≡ count_by must_stay left + cond dirty 1 0 = count_push must_stay left (fresh id bytes dirty) ∙ ap (λ b. count_by must_stay left + cond b 1 0) (or_false dirty) in
    let fewer = one_at_most dirty in
    omega (arith, same, more, fewer)

-- the first dirty page is in its frame, where no two have one page
pub dirty_there : {B : Type 0} (pool : List (Frame B)) (f : Frame B) → IsPool pool → find (λ g. g.dirty) pool ≡ Some f → frame_of pool f.id ≡ Some f
dirty_there pool f old is = alone_first (λ g. g.dirty) (has_id f.id) pool f (eq-eqb f.id f.id refl) (old.distinct f.id) is

-- where room is made for one frame, no more of any kind are left
pub room_fewer : {B : Type 0} (p : Frame B → Bool) (frames : List (Frame B)) → count_by p (with_room frames) ≤ count_by p frames
room_fewer p frames = elim (nat_lt (length frames) FRAMES) as (λ b. count_by p (cond b frames (remove_key may_go frames)) ≤ count_by p frames) [
  | true ↦ omega arith
  | false ↦
      let less : count_by p (remove_key may_go frames) + unwrap_or (option_map (λ f. cond {A = ℕ} (p f) 1 0) (find may_go frames)) 0 ≡ count_by p frames = sum_by-remove_key (λ f. cond {A = ℕ} (p f) 1 0) may_go frames in
      omega (arith, less)
]
