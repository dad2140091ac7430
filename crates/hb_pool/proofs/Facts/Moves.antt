-- A list of which some items in front are gone: what stands behind them, once one of them was moved.
use Rattle.std.proofs.Common.{◌≡◌, ℕ, suc, ◌+◌, ◌-◌, ◌<◌, ◌≤◌, List, [], ◌∷◌, ◌++◌, length, take, drop, get_or, insert, remove, slice_get, Some, sym, ap, ◌∙◌, arith}
use Rattle.std.specs.Option.{option_map_or}
use Rattle.std.proofs.Math.Seq.{take-length, drop-length, drop-append-add}
use Rattle.std.proofs.lemmas.List.{drop-append-le, drop-drop, drop-take, get_or-drop, length-drop, length-take-le, take_more}
use Rattle.std.specs.List.{swap}
use Rattle.std.proofs.Math.ListN.{set}
use Rattle.std.proofs.lemmas.List.{append_assoc, drop_at, drop_more, get_or_at, length-append, set-get_or, set_at, set_split, take_at}
use Rattle.std.proofs.lemmas.List.Edits.{length-remove, swap_is}
use Rattle.std.proofs.lemmas.Option.{get_or_from_slice_get, slice_get-get_or, slice_get_within}
use Rattle.indexmap.specs.IndexMap.{move_index}

module _ {X : Type 0} where
  removed_in_front : (g k : ℕ) (xs : List X) → k < g → k < length xs → drop (g - 1) (remove xs k) ≡ drop g xs
  removed_in_front g k xs lt within =
      let front = length-take-le k xs (omega (arith, within)) in
      ap (λ n. drop n (take k xs ++ drop (suc k) xs)) (let e : g - 1 ≡ length (take k xs) + (g - 1 - k) = omega (arith, front, lt) in e)
      ∙ drop-append-add (take k xs) (drop (suc k) xs) (g - 1 - k)
      ∙ drop-drop (g - 1 - k) (suc k) xs
      ∙ ap (λ n. drop n xs) (let e : suc k + (g - 1 - k) ≡ g = omega (arith, lt) in e)

  removed_behind : (g i : ℕ) (xs : List X) → g + i ≤ length xs → drop g (remove xs (g + i)) ≡ remove (drop g xs) i
  removed_behind g i xs le =
      let front = length-take-le (g + i) xs le in
      let rest : drop (suc (g + i)) xs ≡ drop (suc i) (drop g xs) = ap (λ n. drop n xs) (let e : suc (g + i) ≡ g + suc i = omega arith in e) ∙ sym (drop-drop (suc i) g xs) in
      drop-append-le g (take (g + i) xs) (drop (suc (g + i)) xs) (omega (arith, front))
      ∙ (λ j. drop-take g i xs j ++ rest j)

  moved : (xs : List X) (from to : ℕ) (x : X) → slice_get xs from ≡ Some x → move_index xs from to ≡ insert (remove xs from) to x
  moved xs from to x at = ap (λ o. option_map_or (λ y. insert (remove xs from) to y) o xs) at

  -- what stands at a place behind the front
  pub get_behind : (g i : ℕ) (xs : List X) (x : X) → slice_get (drop g xs) i ≡ Some x → slice_get xs (g + i) ≡ Some x
  get_behind g i xs x at =
      let within = slice_get_within (drop g xs) i x at in
      let long = length-drop g xs in
      slice_get-get_or xs (g + i) x (omega (arith, within, long)) ∙ ap (λ y. Some y) (sym (get_or-drop g xs i x) ∙ get_or_from_slice_get (drop g xs) i x x at)

  -- it goes last
  pub put_last_there : (xs : List X) (k last : ℕ) (x : X) → slice_get xs k ≡ Some x → last ≡ length xs - 1 → move_index xs k last ≡ remove xs k ++ x ∷ []
  put_last_there xs k last x at end =
      let within = slice_get_within xs k x at in
      let long = length-remove xs k within in
      let ys = remove xs k in
      moved xs k last x at
      ∙ ap (λ n. insert ys n x) (let e : last ≡ length ys = omega (arith, long, end) in e)
      ∙ (λ j. take-length ys j ++ x ∷ drop-length ys j)

  pub last_behind : (g i last : ℕ) (xs : List X) (x : X) → slice_get (drop g xs) i ≡ Some x → last ≡ length xs - 1 → drop g (move_index xs (g + i) last) ≡ remove (drop g xs) i ++ x ∷ []
  last_behind g i last xs x at end =
      let there = get_behind g i xs x at in
      let within = slice_get_within xs (g + i) x there in
      let long = length-remove xs (g + i) within in
      ap (drop g) (put_last_there xs (g + i) last x there end)
      ∙ drop-append-le g (remove xs (g + i)) (x ∷ []) (omega (arith, long, within))
      ∙ ap (λ ys. ys ++ x ∷ []) (removed_behind g i xs (omega (arith, within)))

  -- it goes to the front
  pub gone_behind : (g i : ℕ) (xs : List X) (x : X) → slice_get (drop g xs) i ≡ Some x → drop (g + 1) (move_index xs (g + i) g) ≡ remove (drop g xs) i
  gone_behind g i xs x at =
      let there = get_behind g i xs x at in
      let within = slice_get_within xs (g + i) x there in
      let long = length-remove xs (g + i) within in
      let ys = remove xs (g + i) in
      let front = length-take-le g ys (omega (arith, long, within)) in
      ap (drop (g + 1)) (moved xs (g + i) g x there)
      ∙ ap (λ n. drop n (take g ys ++ x ∷ drop g ys)) (let e : g + 1 ≡ length (take g ys) + 1 = omega (arith, front) in e)
      ∙ drop-append-add (take g ys) (x ∷ drop g ys) 1
      ∙ removed_behind g i xs (omega (arith, within))

  -- it comes back from there
  pub back_behind : (g k : ℕ) (xs news : List X) (x : X) → k < g → g ≤ length xs → news ≡ remove xs k ++ x ∷ [] → drop (g - 1) news ≡ drop g xs ++ x ∷ []
  back_behind g k xs news x lt le is =
      let long = length-remove xs k (omega (arith, lt, le)) in
      ap (drop (g - 1)) is
      ∙ drop-append-le (g - 1) (remove xs k) (x ∷ []) (omega (arith, long, le))
      ∙ ap (λ ys. ys ++ x ∷ []) (removed_in_front g k xs lt (omega (arith, lt, le)))

module _ {X : Type 0} where
  -- two neighbours change places
  swap_pair : (p : List X) (x y : X) (q : List X) (n : ℕ) → length p ≡ n → swap (p ++ x ∷ y ∷ q) n (n + 1) ≡ p ++ y ∷ x ∷ q
  swap_pair p x y q n long =
      let zs : List X = p ++ x ∷ y ∷ q in
      let all : length zs ≡ length p + length (x ∷ y ∷ q) = length-append p (x ∷ y ∷ q) in
      let more : (z : X) → length (p ++ z ∷ []) ≡ n + 1 = λ z. (let e = length-append p (z ∷ []) in omega (arith, e, long)) in
      let first : get_or zs n x ≡ x = get_or_at p x (y ∷ q) x n long in
      let second : get_or zs (n + 1) x ≡ y = ap (λ l. get_or l (n + 1) x) (sym (append_assoc p (x ∷ []) (y ∷ q))) ∙ get_or_at (p ++ x ∷ []) y q x (n + 1) (more x) in
      sym (swap_is zs n (n + 1) x (omega (arith, all, long)) (omega (arith, all, long)))
      ∙ (λ j. set (set zs n (second j)) (n + 1) (first j))
      ∙ ap (λ l. set l (n + 1) x) (set_at p x (y ∷ q) y n long ∙ sym (append_assoc p (y ∷ []) (y ∷ q)))
      ∙ set_at (p ++ y ∷ []) y q x (n + 1) (more y)
      ∙ append_assoc p (y ∷ []) (x ∷ q)

  -- so an item goes one place further
  pub one_further : (xs : List X) (a k : ℕ) (x : X) → slice_get xs a ≡ Some x → k + 1 < length xs → swap (move_index xs a k) k (k + 1) ≡ move_index xs a (k + 1)
  one_further xs a k x at lt =
      let ys = remove xs a in
      let long = length-remove xs a (slice_get_within xs a x at) in
      let within : k < length ys = omega (arith, long, lt) in
      let y = get_or ys k x in
      let q = drop (k + 1) ys in
      ap (λ l. swap l k (k + 1)) (moved xs a k x at ∙ ap (λ l. take k ys ++ x ∷ l) (drop_more ys k x within))
      ∙ swap_pair (take k ys) x y q k (length-take-le k ys (omega (arith, within)))
      ∙ sym (append_assoc (take k ys) (y ∷ []) (x ∷ q))
      ∙ ap (λ l. l ++ x ∷ q) (sym (take_more ys k x within))
      ∙ sym (moved xs a (k + 1) x at)

  pub moves_nowhere : (xs : List X) (a : ℕ) (x : X) → slice_get xs a ≡ Some x → move_index xs a a ≡ xs
  moves_nowhere xs a x at =
      let within = slice_get_within xs a x at in
      let long = length-take-le a xs (omega (arith, within)) in
      moved xs a a x at
      ∙ (λ j. take_at (take a xs) (drop (suc a) xs) a long j ++ x ∷ drop_at (take a xs) (drop (suc a) xs) a long j)
      ∙ sym (set_split xs a x within)
      ∙ ap (set xs a) (sym (get_or_from_slice_get xs a x x at))
      ∙ set-get_or xs a x
