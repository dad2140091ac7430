-- Numbers as bytes: what `big_endian` spells, and what the reads and writes of `byteorder` make of it.
use Rattle.std.proofs.Common.{◌≡◌, ℕ, zero, suc, ◌+◌, ◌-◌, ◌^◌, ◌<◌, ◌≤◌, List, [], ◌++◌, All, length, get_or, take, drop, append_assoc, refl, sym, ap, ◌∙◌, arith, slice_range}
use Rattle.std.proofs.lemmas.List.{append-nil}
use Rattle.std.proofs.lemmas.Nat.{be_bytes_2, be_bytes_4, be_bytes_8}
use Rattle.byteorder.specs.Endian.{big_number, big_bytes, big_from}
use Rattle.byteorder.specs.Numbers.{length-bytes_high_first, big_number-reads_back}
use Rattle.std.specs.Int.{byte_at, bytes_high_first}
use Rattle.std.proofs.lemmas.Slice.{between_is, between-put_mid, take-put_mid_below, drop-put_mid}
use borrow.Rule.Slice.PartMut.{put_mid, Post-is}
use Rattle.std.proofs.lemmas.List.{length-take}
use Rattle.std.proofs.Math.ListN.{drop_of_length-le}
use Rattle.hb_lemmas.specs.Numbers.{big_endian}
use Rattle.hb_lemmas.proofs.Lists.{same_fronts}

-- of what is left behind i others, one comes first
pub one_left : (n i : ℕ) → i < n → n - i ≡ suc (n - (i + 1))
one_left n i less = omega (arith, less)

-- there are as many bytes as the width says
pub length_big_endian : (width n : ℕ) → length (big_endian width n) ≡ width
unfolding big_endian
length_big_endian width n = length-bytes_high_first width n

-- the number that is read where a number's bytes stand alone
pub big_number-spelled : (width n : ℕ) (bytes : List ℕ) → n < 256 ^ width → bytes ≡ big_endian width n → big_number width bytes ≡ n
unfolding big_endian
big_number-spelled width n bytes fits e =
    ap (big_number width) (e ∙ sym (append-nil (big_bytes width n))) ∙ big_number-reads_back width n [] fits

-- two numbers that have the same bytes are the same
pub big_endian-injective : (width m n : ℕ) → m < 256 ^ width → n < 256 ^ width → big_endian width m ≡ big_endian width n → m ≡ n
big_endian-injective width m n m_fits n_fits e =
    sym (big_number-spelled width m (big_endian width m) m_fits refl) ∙ big_number-spelled width n (big_endian width m) n_fits e

-- two bytes spell the number that is read from them
pub spelled_2 : (bytes : List ℕ) (n : ℕ) → length bytes ≡ 2 → ((i : ℕ) → get_or bytes i 0 < 256) → big_number 2 bytes ≡ n → bytes ≡ big_endian 2 n
unfolding big_endian
spelled_2 bytes n count small e = sym (be_bytes_2 bytes n count small (omega arith))

-- four bytes spell the number that is read from them
pub spelled_4 : (bytes : List ℕ) (n : ℕ) → length bytes ≡ 4 → ((i : ℕ) → get_or bytes i 0 < 256) → big_number 4 bytes ≡ n → bytes ≡ big_endian 4 n
unfolding big_endian
spelled_4 bytes n count small e = sym (be_bytes_4 bytes n count small (omega arith))

-- eight bytes spell the number that is read from them
pub spelled_8 : (bytes : List ℕ) (n : ℕ) → length bytes ≡ 8 → ((i : ℕ) → get_or bytes i 0 < 256) → big_number 8 bytes ≡ n → bytes ≡ big_endian 8 n
unfolding big_endian
spelled_8 bytes n count small e = sym (be_bytes_8 bytes n count small (omega arith))

byte_at-small : (k n : ℕ) → byte_at k n < 256
byte_at-small zero n = omega arith
byte_at-small (suc k) n = omega arith

bytes-small : (width n k d : ℕ) → k < length (bytes_high_first width n) → get_or (bytes_high_first width n) k d < 256
bytes-small zero n k d h = absurd (omega arith)
bytes-small (suc width) n zero d h = byte_at-small width n
bytes-small (suc width) n (suc k) d h = bytes-small width n k d (omega arith)

-- each byte is below 256
pub big_endian-small : (width n : ℕ) → All (λ b. b < 256) (big_endian width n)
unfolding big_endian
big_endian-small width n = bytes-small width n

-- a list with other bytes in place of those from `at` on, as a write to a part leaves it
joined : (at k : ℕ) (old bytes : List ℕ) → take at old ++ bytes ++ drop (at + k) old ≡ put_mid at (at + k - at) old bytes
joined at k old bytes =
    let rest : drop (at + k - at) (drop at old) ≡ drop (at + k) old = Post-is at (at + k) old (omega arith) in
    rw (rest, append_assoc) refl

-- what a list is after a number was written into the part of its width
pub given : (at k n : ℕ) (old new : List ℕ) → at + k ≤ length old
    → new ≡ big_bytes k n ++ drop k (take (at + k - at) (drop at old))
    → put_mid at (at + k - at) old new ≡ take at old ++ big_endian k n ++ drop (at + k) old
unfolding big_endian
given at k n old new room e =
    let short : length (take (at + k - at) (drop at old)) ≤ k = simp length-take (omega arith) in
    let none = drop_of_length-le (take (at + k - at) (drop at old)) {i = k} short in
    let same : new ≡ big_bytes k n = e ∙ ap (λ (rest : List ℕ). big_bytes k n ++ rest) none ∙ append-nil (big_bytes k n) in
    sym (joined at k old new) ∙ ap (λ (bytes : List ℕ). take at old ++ bytes ++ drop (at + k) old) same

-- a number's bytes stand where they were written
pub slice_range-given : (width n at : ℕ) (old : List ℕ) → at ≤ length old
    → slice_range (take at old ++ big_endian width n ++ drop (at + width) old) at (at + width) ≡ big_endian width n
slice_range-given width n at old within =
    let count : length (big_endian width n) ≡ at + width - at = length_big_endian width n ∙ omega arith in
    ap (λ (bytes : List ℕ). slice_range bytes at (at + width)) (joined at width old (big_endian width n))
    ∙ between-put_mid at (at + width - at) old (big_endian width n) (at + width) within count

-- what stands in front of them stays
pub slice_range-given_before : (width n at : ℕ) (old : List ℕ) (i j : ℕ) → j ≤ at → at ≤ length old
    → slice_range (take at old ++ big_endian width n ++ drop (at + width) old) i j ≡ slice_range old i j
slice_range-given_before width n at old i j below within =
    ap (λ (bytes : List ℕ). slice_range bytes i j) (joined at width old (big_endian width n))
    ∙ between_is (put_mid at (at + width - at) old (big_endian width n)) i j
    ∙ ap (λ (bytes : List ℕ). drop i bytes) (take-put_mid_below at (at + width - at) old (big_endian width n) j below within)
    ∙ sym (between_is old i j)

-- and what stands behind them
pub slice_range-given_behind : (width n at : ℕ) (old : List ℕ) (i j : ℕ) → at + width ≤ i → at ≤ length old
    → slice_range (take at old ++ big_endian width n ++ drop (at + width) old) i j ≡ slice_range old i j
slice_range-given_behind width n at old i j above within =
    let count : length (big_endian width n) ≡ at + width - at = length_big_endian width n ∙ omega arith in
    ap (λ (bytes : List ℕ). slice_range bytes i j) (joined at width old (big_endian width n))
    ∙ ap (λ (bytes : List ℕ). take (j - i) bytes) (drop-put_mid at (at + width - at) old (big_endian width n) i (omega arith) within count)

-- a number in front of bytes, and the bytes behind it
pub same_number : (m n : ℕ) (r s : List ℕ) → m < 2 ^ 32 → n < 2 ^ 32 → big_endian 4 m ++ r ≡ big_endian 4 n ++ s → (m ≡ n) × (r ≡ s)
unfolding big_endian
same_number m n r s m_fits n_fits e = (
  sym (big_number-reads_back 4 m r m_fits) ∙ ap (λ (l : List ℕ). big_from 0 4 l) e ∙ big_number-reads_back 4 n s n_fits,
  (same_fronts (big_endian 4 m) (big_endian 4 n) r s (length_big_endian 4 m ∙ sym (length_big_endian 4 n)) e).1,
)
