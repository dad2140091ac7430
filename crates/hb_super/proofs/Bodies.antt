-- Whether bytes are a legal body of a turn.
use Rattle.std.proofs.Common.{◌≡◌, inl, inr, ℕ, ◌^◌, List, take, drop, get_or, refl, sym, ap, ◌∙◌, subst, arith}
use Rattle.byteorder.specs.Endian.{big_number}
use Rattle.hb_lemmas.proofs.Decisions.{Known, both, known_le, known_lt, known_list}
use Rattle.hb_lemmas.specs.Numbers.{big_endian}
use Rattle.hb_space.specs.declared.form.TheConstants.{KMAX, ICAP_MIN}
use Rattle.hb_layout.specs.declared.meta.Meta.{Meta}
use Rattle.hb_layout.specs.Limits.{IsLayout}
use Rattle.hb_super.specs.Superblocks.{FitsNumbers, IsLegal, body_bytes}
use Rattle.hb_lemmas.proofs.Numbers.{big_number-spelled}

-- what a body says, where it is one
said_in : List ℕ → Meta
said_in bytes = record {
  k = get_or bytes 10 0;
  pages = big_number 4 (take 4 (drop 12 bytes));
  log = big_number 4 (take 4 (drop 16 bytes));
  dcap = big_number 2 (take 2 (drop 20 bytes));
  icap = big_number 2 (take 2 (drop 22 bytes));
  root = big_number 4 (take 4 (drop 24 bytes));
  height = get_or bytes 11 0;
  high = big_number 4 (take 4 (drop 28 bytes));
  live = big_number 4 (take 4 (drop 32 bytes));
  free = big_number 4 (take 4 (drop 36 bytes));
}

fields_back : (turn : ℕ) (meta : Meta) → said_in (body_bytes turn meta) ≡ record {
  k = meta.k;
  pages = big_number 4 (big_endian 4 meta.pages);
  log = big_number 4 (big_endian 4 meta.log);
  dcap = big_number 2 (big_endian 2 meta.dcap);
  icap = big_number 2 (big_endian 2 meta.icap);
  root = big_number 4 (big_endian 4 meta.root);
  height = meta.height;
  high = big_number 4 (big_endian 4 meta.high);
  live = big_number 4 (big_endian 4 meta.live);
  free = big_number 4 (big_endian 4 meta.free);
}
unfolding big_endian said_in
fields_back turn meta = refl

said_back : (turn : ℕ) (meta : Meta) → IsLegal turn meta → said_in (body_bytes turn meta) ≡ meta
said_back turn meta legal =
    let pages = big_number-spelled 4 meta.pages (big_endian 4 meta.pages) (omega (arith, legal.layout.few_pages)) refl in
    let log = big_number-spelled 4 meta.log (big_endian 4 meta.log) (omega (arith, legal.layout.log_limit)) refl in
    let dcap = big_number-spelled 2 meta.dcap (big_endian 2 meta.dcap) (omega (arith, legal.layout.dcap_most)) refl in
    let icap = big_number-spelled 2 meta.icap (big_endian 2 meta.icap) (omega (arith, legal.layout.icap_most)) refl in
    let root = big_number-spelled 4 meta.root (big_endian 4 meta.root) legal.numbers.root refl in
    let high = big_number-spelled 4 meta.high (big_endian 4 meta.high) legal.numbers.high refl in
    let live = big_number-spelled 4 meta.live (big_endian 4 meta.live) legal.numbers.live refl in
    let free = big_number-spelled 4 meta.free (big_endian 4 meta.free) legal.numbers.free refl in
    fields_back turn meta
    ∙ (λ i. record { k = meta.k; pages = pages i; log = log i; dcap = dcap i; icap = icap i; root = root i; height = meta.height; high = high i; live = live i; free = free i })

-- and so one body says one thing
pub one_body : (turn : ℕ) (m n : Meta) → IsLegal turn m → IsLegal turn n → body_bytes turn m ≡ body_bytes turn n → m ≡ n
one_body turn m n first second same = sym (said_back turn m first) ∙ ap said_in same ∙ said_back turn n second

known_layout : (meta : Meta) → Known (IsLayout meta)
known_layout meta = elim (both (known_le 1 meta.k) (both (known_le meta.k KMAX) (both (known_le 1 meta.pages) (both (known_le meta.pages 65536) (both (known_le 65536 meta.log) (both (known_le meta.log 67108864)
    (both (known_le 6 meta.dcap) (both (known_le meta.dcap 48) (both (known_le ICAP_MIN meta.icap) (both (known_le meta.icap 256) (both (known_le 1 meta.height) (known_le meta.height 12)))))))))))) [
      | inl holds ↦ inl (record {
        some_attributes = holds.0;
        few_attributes = holds.1.0;
        some_pages = holds.1.1.0;
        few_pages = holds.1.1.1.0;
        log_room = holds.1.1.1.1.0;
        log_limit = holds.1.1.1.1.1.0;
        dcap_least = holds.1.1.1.1.1.1.0;
        dcap_most = holds.1.1.1.1.1.1.1.0;
        icap_least = holds.1.1.1.1.1.1.1.1.0;
        icap_most = holds.1.1.1.1.1.1.1.1.1.0;
        some_height = holds.1.1.1.1.1.1.1.1.1.1.0;
        few_levels = holds.1.1.1.1.1.1.1.1.1.1.1;
      })
      | inr fails ↦ inr (λ is. fails (is.some_attributes, (is.few_attributes, (is.some_pages, (is.few_pages, (is.log_room, (is.log_limit, (is.dcap_least, (is.dcap_most, (is.icap_least, (is.icap_most, (is.some_height, is.few_levels))))))))))))
    ]

known_numbers : (meta : Meta) → Known (FitsNumbers meta)
known_numbers meta = elim (both (known_lt meta.root (2 ^ 32)) (both (known_lt meta.high (2 ^ 32)) (both (known_lt meta.live (2 ^ 32)) (known_lt meta.free (2 ^ 32))))) [
  | inl holds ↦ inl (record { root = holds.0; high = holds.1.0; live = holds.1.1.0; free = holds.1.1.1 })
  | inr fails ↦ inr (λ is. fails (is.root, (is.high, (is.live, is.free))))
]

known_legal : (turn : ℕ) (meta : Meta) → Known (IsLegal turn meta)
known_legal turn meta = elim (both (known_le turn 3) (both (known_layout meta) (known_numbers meta))) [
  | inl holds ↦ inl (record { turn_fits = holds.0; layout = holds.1.0; numbers = holds.1.1 })
  | inr fails ↦ inr (λ is. fails (is.turn_fits, (is.layout, is.numbers)))
]

-- the bytes are a legal body of this turn
abbrev pub HasBody : List ℕ → ℕ → Type 0
HasBody bytes turn = (meta : Meta) × IsLegal turn meta × (bytes ≡ body_bytes turn meta)

pub known_body : (bytes : List ℕ) (turn : ℕ) → Known (HasBody bytes turn)
known_body bytes turn = elim (both (known_legal turn (said_in bytes)) (known_list bytes (body_bytes turn (said_in bytes)))) [
  | inl holds ↦ inl (said_in bytes, holds.0, holds.1)
  | inr fails ↦ inr (λ has.
      let is : said_in bytes ≡ has.0 = ap said_in has.2 ∙ said_back turn has.0 has.1 in
      fails (subst (λ (m : Meta). IsLegal turn m) (sym is) has.1, has.2 ∙ ap (body_bytes turn) (sym is)))
]
