-- A sound file breaks no rule.
use Rattle.std.proofs.Common.{inl, inr, ℕ}
use Rattle.hb_ops.specs.Files.{FileState}
use Rattle.hb_ops.specs.Sound.{IsSound}
use Rattle.hb_ops.proofs.Facts.WellMade.{not_broken}
use Rattle.hb_sound.specs.Told.{file_of}
use Rattle.hb_sound.specs.Names.{BreaksRule, NamesIn, SoundBreaksNone}

breaks_none : (s : FileState) (rule id : ℕ) → BreaksRule s rule id → IsSound s → ⊥
breaks_none s rule id b sound = not_broken rule b.0 s.meta b.2 (sound.well_made id b.0 b.1)

-- a rule that a sound file is said to break
pub sound_in : (s : FileState) (id rule : ℕ) → NamesIn s id rule → IsSound s → ⊥
sound_in s id rule (inl one) sound = one.2 sound.rooted
sound_in s id rule (inr (inl two)) sound = two.2 sound.counted
sound_in s id rule (inr (inr (inl first))) sound = breaks_none s rule id first.2.1.here sound
sound_in s id rule (inr (inr (inr (inl seven)))) sound =
    let b = seven.2.here in b.5 (sound.siblings id b.0 b.2 b.3 b.1 b.4)
sound_in s id rule (inr (inr (inr (inr (inl eight))))) sound =
    let b = eight.3.here in b.5 (sound.children id b.0 b.2 b.3 b.1 b.4)
sound_in s id rule (inr (inr (inr (inr (inr (inl nine)))))) sound = nine.2 sound.covered
sound_in s id rule (inr (inr (inr (inr (inr (inr ten)))))) sound = breaks_none s 10 id ten.3.here sound

pub sound_breaks_none : SoundBreaksNone
sound_breaks_none meta told id rule (inl hole) whole sound = whole id hole.1.here
sound_breaks_none meta told id rule (inr named) whole sound = sound_in (file_of meta told) id rule named.1 sound
