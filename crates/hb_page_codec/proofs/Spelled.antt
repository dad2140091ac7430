-- Numbers at the front of bytes.
use Rattle.std.proofs.Common.{◌≡◌, ℕ, ◌-◌, ◌^◌, ◌<◌, ◌≤◌, List, ◌++◌, length, take, drop, Some, refl, sym, ap, ◌∙◌, arith}
use Rattle.std.proofs.lemmas.Bool.{le-ltb}
use Rattle.std.proofs.lemmas.List.{take-append-drop, take_all, length-drop}
use Rattle.byteorder.specs.Endian.{big_number}
use Rattle.byteorder.specs.Numbers.{big_number-reads_back}
use Rattle.hb_lemmas.specs.Numbers.{big_endian}
use Rattle.hb_page_codec.specs.Reading.{number_at}

-- the number of these bytes, whatever follows
pub big_number-spelled : (width n : ℕ) (rest : List ℕ) → n < 256 ^ width → big_number width (big_endian width n ++ rest) ≡ n
unfolding big_endian
big_number-spelled width n rest fits = big_number-reads_back width n rest fits

-- where there is room, a take gives the number whose bytes stand there
pub number_there : (width n : ℕ) (bytes : List ℕ) → n < 256 ^ width → width ≤ length bytes → take width bytes ≡ big_endian width n
    → number_at width bytes ≡ Some (n, take (length bytes - width) (drop width bytes))
number_there width n bytes fits room e =
    let split : bytes ≡ big_endian width n ++ drop width bytes = sym (take-append-drop width bytes) ∙ ap (λ (x : List ℕ). x ++ drop width bytes) e in
    let value : big_number width bytes ≡ n = ap (big_number width) split ∙ big_number-spelled width n (drop width bytes) fits in
    let rest : take (length bytes - width) (drop width bytes) ≡ drop width bytes = take_all (length bytes - width) (drop width bytes) (omega (arith, length-drop width bytes)) in
    rw (le-ltb (length bytes) width room, value, rest) refl
