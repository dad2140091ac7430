-- What a crash leaves in each step of two writes in order.
use Rattle.std.proofs.Common.{◌≡◌, inl, inr, ℕ, ◌+◌, ◌≤◌, List, length, Some, Result, Ok, ◌∙◌, subst, arith}
use Rattle.hb_disk.specs.Model.{DiskModel, IsDisk, overwritten, Torn}
use Rattle.hb_disk.specs.Calls.{Writes, Syncs, Leaves, Then}
use Rattle.hb_disk.specs.Calls as calls
use Rattle.hb_disk.specs.Runs.{Rewrites}
use Rattle.hb_disk.proofs.Facts.TornLaws.{Torn-itself}
use Rattle.hb_disk.proofs.Facts.RunLaws.{Leaves-start, Leaves-call}
use Rattle.hb_disk.proofs.Facts.BecomesLaws.{told_written}
use Rattle.hb_disk.proofs.Facts.RewriteLaws.{Rewrites-write, Rewrites-sync, Rewrites-then, Rewrites-torn, Rewrites-weaker}
use Rattle.hb_disk.proofs.Facts.SyncedLaws.{only_told}

module _ (old : DiskModel) (first : ℕ) (a : List ℕ) (second : ℕ) (b : List ℕ) where
  -- an image of before, after some of the two pieces
  abbrev pub Ordered : List ℕ → Type 0
  Ordered c = (t : List ℕ) × old.Image t × calls.InOrder first a second b t c

  module _ (t : List ℕ) (told : old.told ≡ Some t) (disk : IsDisk old) {T E : Type 0}
      (r : Result T E) (one : DiskModel) (written : Writes first a r old one) where
    one_ordered : (c : List ℕ) → one.Image c → Ordered c
    one_ordered c image = let from = written.crash c image in (from.0, from.1, inl from.2)

    pub run_one : Leaves old one Ordered
    run_one = Leaves-call r old old one Ordered (Leaves-start old Ordered disk (λ c image. (c, image, inl (Torn-itself first (length a) c (disk.bytes c image))))) written.ticks one_ordered

    module _ (s : Result T E) (two : DiskModel) (synced : Syncs s one two) where
      pub run_two : Leaves old two Ordered
      run_two = Leaves-call s old one two Ordered run_one synced.ticks (λ c image. one_ordered c (synced.crash c image))

      module _ (v w : T) (r_ok : r ≡ Ok v) (s_ok : s ≡ Ok w) (q : Result T E) (three : DiskModel) (written_2 : Writes second b q two three) where
        one_told : one.told ≡ Some (overwritten t first a)
        one_told = told_written r v first a old one t r_ok told written

        three_ordered : (c : List ℕ) → three.Image c → Ordered c
        three_ordered c image =
            let from = written_2.crash c image in
            let is : from.0 ≡ overwritten t first a = only_told s w one two (overwritten t first a) s_ok one_told synced from.0 from.1 in
            (t, disk.as_read t told, inr (subst (λ (l : List ℕ). Torn second (length b) l c) is from.2))

        pub run_three : Leaves old three Ordered
        run_three = Leaves-call q old two three Ordered run_two written_2.ticks three_ordered

        pub run_four : (u : Result T E) (new : DiskModel) → Syncs u three new → Leaves old new Ordered
        run_four u new syncs = Leaves-call u old three new Ordered run_three syncs.ticks (λ c image. three_ordered c (syncs.crash c image))

        -- what a read gives once both pieces are written
        pub three_told : (x : T) → q ≡ Ok x → three.told ≡ Some (overwritten (overwritten t first a) second b)
        three_told x q_ok = told_written q x second b two three (overwritten t first a) q_ok (synced.same ∙ one_told) written_2

  -- the calls touched the two ranges alone
  abbrev pub InTwo : List ℕ → List ℕ → Type 0
  InTwo = Then (Torn first (length a)) (Torn second (length b))

  -- where the second range was not touched yet
  before_second : (x c : List ℕ) → Torn first (length a) x c → InTwo x c
  before_second x c torn = (c, torn, Torn-itself second (length b) c torn.bytes)

  module _ (disk : IsDisk old) (first_inside : first + length a ≤ old.size) (one : DiskModel) (is_one : IsDisk one) {T E : Type 0}
      (r : Result T E) (written : Writes first a r old one) where
    torn_one : Rewrites (Torn first (length a)) 1 r old one
    torn_one = Rewrites-write r first a first (length a) old one disk is_one first_inside (omega arith) (omega arith) written

    pub wrote_one : Rewrites InTwo 1 r old one
    wrote_one = Rewrites-weaker r (Torn first (length a)) InTwo 1 old one before_second torn_one

    module _ (v : T) (r_ok : r ≡ Ok v) (s : Result T E) (two : DiskModel) (synced : Syncs s one two) where
      torn_two : Rewrites (Torn first (length a)) 2 s old two
      torn_two = Rewrites-torn r s first (length a) 1 1 old one two v r_ok torn_one (Rewrites-sync s first (length a) one two is_one synced)

      pub wrote_two : Rewrites InTwo 2 s old two
      wrote_two = Rewrites-weaker s (Torn first (length a)) InTwo 2 old two before_second torn_two

      module _ (w : T) (s_ok : s ≡ Ok w) (second_inside : second + length b ≤ old.size) (is_two : IsDisk two) (q : Result T E) (three : DiskModel) (is_three : IsDisk three)
          (written_2 : Writes second b q two three) where
        torn_three : Rewrites (Torn second (length b)) 1 q two three
        torn_three = Rewrites-write q second b second (length b) two three is_two is_three (omega (arith, second_inside, synced.ticks.size, written.ticks.size)) (omega arith) (omega arith) written_2

        pub wrote_three : Rewrites InTwo 3 q old three
        wrote_three = Rewrites-then s q (Torn first (length a)) (Torn second (length b)) 2 1 old two three w s_ok torn_two torn_three

        pub wrote_four : (x : T) → q ≡ Ok x → (u : Result T E) (new : DiskModel) → Syncs u three new → Rewrites InTwo 4 u old new
        wrote_four x q_ok u new syncs =
            Rewrites-then s u (Torn first (length a)) (Torn second (length b)) 2 2 old two new w s_ok torn_two
            (Rewrites-torn q u second (length b) 1 1 two three new x q_ok torn_three (Rewrites-sync u second (length b) three new is_three syncs))
