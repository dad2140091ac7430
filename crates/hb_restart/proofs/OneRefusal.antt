-- Bytes are refused in one way.
use Rattle.std.proofs.Common.{◌≡◌, inl, inr, ℕ, ◌≤◌, List, length, refl, sym, ap, subst, ◌∙◌, arith}
use Rattle.hb_wal.specs.Frames.{ReadsOneWay}
use Rattle.hb_super.specs.Superblocks.{IsNewest, HasNone}
use Rattle.hb_layout.specs.declared.meta.Meta.{Meta}
use Rattle.hb_ops.specs.Files.{FileState}
use Rattle.hb_log_codec.specs.Groups.{Logged}
use Rattle.hb_store.proofs.Facts.Spellings.{OneList, one_log}
use Rattle.hb_layout.specs.Offsets.{file_size}
use Rattle.hb_store.specs.Opening.{HasBadGroup, OpensToOne}
use Rattle.hb_store.specs.Replay.{untouched, replay}
use Rattle.hb_sound.specs.Names.{NamesIn, OneIsNamed}
use Rattle.hb_restart.specs.Refusals.{RefusesBytes, IsUnwritten, IsSmall, IsUnsound, HasLayout, LogSays, LacksPage}
use Rattle.hb_restart.specs.declared.faults.OpenFault.{OpenFault}
use Rattle.hb_restart.specs.declared.faults.OpenFault.TheVariants as faults
use Rattle.hb_store.proofs.Facts.BadGroups.{no_bad_group, one_bad_group}
use Rattle.hb_restart.proofs.NotRefused.{least_size, opens_so}
use Rattle.hb_sound.proofs.Facts.LeastLaws.{least_one}

same_small : (a b c d : ℕ) → a ≡ c → b ≡ d → ◌≡◌ {A = OpenFault} (faults.Small a b) (faults.Small c d)
same_small a b c d e f = cc (e, f)

same_unsound : (a b c d : ℕ) → a ≡ c → b ≡ d → ◌≡◌ {A = OpenFault} (faults.Unsound a b) (faults.Unsound c d)
same_unsound a b c d e f = cc (e, f)

module _ (once : OneList) (turns : (bytes : List ℕ) (t s : ℕ) (m n : Meta) → IsNewest bytes t m → IsNewest bytes s n → t ≡ s) (saids : (bytes : List ℕ) (t s : ℕ) (m n : Meta) → IsNewest bytes t m → IsNewest bytes s n → m ≡ n)
    (one_way : ReadsOneWay) (one : OpensToOne) (named : OneIsNamed) (b : List ℕ) where
  small_none : (needed found : ℕ) → IsSmall b needed found → (8192 ≤ length b) × HasNone b → ⊥
  small_none needed found (is, less, (inl least)) none = absurd (omega (arith, is, less, least, none.0))
  small_none needed found (is, less, (inr layout)) none = none.1 layout.1 layout.2 layout.3.there

  small_layout : (needed found turn : ℕ) (said : Meta) → IsSmall b needed found → HasLayout b turn said → ⊥
  small_layout needed found turn said (is, less, (inl least)) layout = absurd (omega (arith, is, less, least, least_size said, layout.fits))
  small_layout needed found turn said (is, less, (inr other)) layout =
      let size : needed ≡ file_size said = other.4 ∙ ap file_size (saids b other.1 turn other.2 said other.3 layout.newest) in
      absurd (omega (arith, is, less, size, layout.fits))

  none_layout : (turn : ℕ) (said : Meta) → (8192 ≤ length b) × HasNone b → HasLayout b turn said → ⊥
  none_layout turn said none layout = none.1 turn said layout.newest.there

  small_same : (needed found wanted there : ℕ) → IsSmall b needed found → IsSmall b wanted there → needed ≡ wanted
  small_same needed found wanted there (is, less, (inl least)) (was, short, (inl wants)) = least ∙ sym wants
  small_same needed found wanted there (is, less, (inl least)) (was, short, (inr other)) = absurd (omega (arith, is, less, least, was, other.0))
  small_same needed found wanted there (is, less, (inr other)) (was, short, (inl wants)) = absurd (omega (arith, was, short, wants, is, other.0))
  small_same needed found wanted there (is, less, (inr x)) (was, short, (inr y)) = x.4 ∙ ap file_size (saids b x.1 y.1 x.2 y.2 x.3 y.3) ∙ sym y.4

  -- what is said of the newest superblock is said of the other one, which is the same
  moved : (P : ℕ → Meta → Type 0) (t s : ℕ) (m n : Meta) → HasLayout b t m → HasLayout b s n → P t m → P s n
  moved P t s m n x y p = subst (λ (k : Meta). P s k) (saids b t s m n x.newest y.newest) (subst (λ (k : ℕ). P k m) (turns b t s m n x.newest y.newest) p)

  same_groups_of : (turn : ℕ) (said : Meta) (xs ys : List Logged) → LogSays b turn said xs → LogSays b turn said ys → xs ≡ ys
  same_groups_of turn said xs ys x y = (one_log once one_way b turn said x.0 y.0 xs ys x.1 y.1).1

  unsound_same : (turn : ℕ) (said : Meta) (groups : List Logged) (p q r t : ℕ) → HasLayout b turn said → LogSays b turn said groups
      → IsUnsound b said groups p r → IsUnsound b said groups q t → (p ≡ q) × (r ≡ t)
  unsound_same turn said groups p q r t layout log (inl x) (inl y) = (least_one (LacksPage b said (replay (untouched said) groups)) p q x.1 y.1, x.0 ∙ sym y.0)
  unsound_same turn said groups p q r t layout log (inl x) (inr y) = absurd (y.0 p x.1.here)
  unsound_same turn said groups p q r t layout log (inr x) (inl y) = absurd (x.0 q y.1.here)
  unsound_same turn said groups p q r t layout log (inr x) (inr y) =
      let same : x.1 ≡ y.1 = one b x.1 y.1 (opens_so b turn said groups x.1 layout log x.2) (opens_so b turn said groups y.1 layout log y.2) in
      named y.1 p q r t (subst (λ (s : FileState). NamesIn s p r) same x.3) y.3

  unsound_one : (t s : ℕ) (m n : Meta) (xs ys : List Logged) (p q r u : ℕ) → HasLayout b t m → HasLayout b s n → LogSays b t m xs → LogSays b s n ys
      → IsUnsound b m xs p r → IsUnsound b n ys q u → (p ≡ q) × (r ≡ u)
  unsound_one t s m n xs ys p q r u x y log_x log_y bad_x bad_y =
      let log : LogSays b s n xs = moved (λ k said. LogSays b k said xs) t s m n x y log_x in
      let bad : IsUnsound b n xs p r = moved (λ k said. IsUnsound b said xs p r) t s m n x y bad_x in
      let here : IsUnsound b n ys p r = subst (λ (l : List Logged). IsUnsound b n l p r) (same_groups_of s n xs ys log log_y) bad in
      unsound_same s n ys p q r u y log_y here bad_y

  bad_same : (t s : ℕ) (m n : Meta) (f g : ℕ) → HasLayout b t m → HasLayout b s n → HasBadGroup b t m f → HasBadGroup b s n g → f ≡ g
  bad_same t s m n f g x y bad_f bad_g = one_bad_group once b s n f g (moved (λ k said. HasBadGroup b k said f) t s m n x y bad_f) bad_g

  bad_not : (t s : ℕ) (m n : Meta) (f : ℕ) (groups : List Logged) → HasLayout b t m → HasLayout b s n → HasBadGroup b t m f → LogSays b s n groups → ⊥
  bad_not t s m n f groups x y bad log = no_bad_group once b s n log.0 groups f log.1 (moved (λ k said. HasBadGroup b k said f) t s m n x y bad)

  pub refused_once : (f g : OpenFault) → RefusesBytes f b → RefusesBytes g b → IsUnwritten f → IsUnwritten g → f ≡ g
  refused_once faults.DiskFault g x y u v = absurd u
  refused_once faults.NoMemory g x y u v = absurd u
  refused_once (faults.Small needed found) (faults.Small wanted there) x y u v = same_small needed found wanted there (small_same needed found wanted there x y) (x.0 ∙ sym y.0)
  refused_once (faults.Small needed found) faults.NoSuper x y u v = absurd (small_none needed found x y)
  refused_once (faults.Small needed found) (faults.BadGroup other) x y u v = absurd (small_layout needed found y.0 y.1 x y.2)
  refused_once (faults.Small needed found) (faults.Unsound place broken) x y u v = absurd (small_layout needed found y.0 y.1 x y.2)
  refused_once (faults.Small needed found) faults.DiskFault x y u v = absurd v
  refused_once (faults.Small needed found) faults.NoMemory x y u v = absurd v
  refused_once faults.NoSuper (faults.Small wanted there) x y u v = absurd (small_none wanted there y x)
  refused_once faults.NoSuper faults.NoSuper x y u v = refl
  refused_once faults.NoSuper (faults.BadGroup other) x y u v = absurd (none_layout y.0 y.1 x y.2)
  refused_once faults.NoSuper (faults.Unsound place broken) x y u v = absurd (none_layout y.0 y.1 x y.2)
  refused_once faults.NoSuper faults.DiskFault x y u v = absurd v
  refused_once faults.NoSuper faults.NoMemory x y u v = absurd v
  refused_once (faults.BadGroup frame) (faults.Small wanted there) x y u v = absurd (small_layout wanted there x.0 x.1 y x.2)
  refused_once (faults.BadGroup frame) faults.NoSuper x y u v = absurd (none_layout x.0 x.1 y x.2)
  refused_once (faults.BadGroup frame) (faults.BadGroup other) x y u v = ap (λ (n : ℕ). faults.BadGroup n) (bad_same x.0 y.0 x.1 y.1 frame other x.2 y.2 x.3 y.3)
  refused_once (faults.BadGroup frame) (faults.Unsound place broken) x y u v = absurd (bad_not x.0 y.0 x.1 y.1 frame y.3 x.2 y.2 x.3 y.4)
  refused_once (faults.BadGroup frame) faults.DiskFault x y u v = absurd v
  refused_once (faults.BadGroup frame) faults.NoMemory x y u v = absurd v
  refused_once (faults.Unsound page rule) (faults.Small wanted there) x y u v = absurd (small_layout wanted there x.0 x.1 y x.2)
  refused_once (faults.Unsound page rule) faults.NoSuper x y u v = absurd (none_layout x.0 x.1 y x.2)
  refused_once (faults.Unsound page rule) (faults.BadGroup other) x y u v = absurd (bad_not y.0 x.0 y.1 x.1 other x.3 y.2 x.2 y.3 x.4)
  refused_once (faults.Unsound page rule) (faults.Unsound place broken) x y u v = (let same = unsound_one x.0 y.0 x.1 y.1 x.3 y.3 page place rule broken x.2 y.2 x.4 y.4 x.5 y.5 in same_unsound page rule place broken same.0 same.1)
  refused_once (faults.Unsound page rule) faults.DiskFault x y u v = absurd v
  refused_once (faults.Unsound page rule) faults.NoMemory x y u v = absurd v
