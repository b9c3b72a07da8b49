-- What stays open where all within the last frame that is sought is closed.
use Rattle.std.proofs.Common.{◌≡◌, ℕ, ◌+◌, ◌<◌, Bool, true, false, if◌then◌else◌, List, [], ◌∷◌, length, take, get_or, ap, sym, ◌∙◌}
use Rattle.std.specs.Prelude.{reverse}
use Rattle.std.proofs.lemmas.List.{reverse-append, take_more}
use Rattle.cv_oracles.specs.declared.frames.Frame.{Frame}
use Rattle.cv_oracles.specs.Frames.{from_first}

module _ (is : Frame → Bool) (fs : List Frame) (n : ℕ) (d : Frame) (h : n < length fs) where
  last_first : reverse (take (n + 1) fs) ≡ get_or fs n d ∷ reverse (take n fs)
  last_first = ap reverse (take_more fs n d h) ∙ reverse-append (take n fs) (get_or fs n d ∷ [])

  pub sought_last : is (get_or fs n d) ≡ true → from_first is (reverse (take (n + 1) fs)) ≡ reverse (take (n + 1) fs)
  sought_last e =
      ap (from_first is) last_first
      ∙ (λ i. if e i then get_or fs n d ∷ reverse (take n fs) else from_first is (reverse (take n fs)))
      ∙ sym last_first

  pub passed_last : is (get_or fs n d) ≡ false → from_first is (reverse (take (n + 1) fs)) ≡ from_first is (reverse (take n fs))
  passed_last e = ap (from_first is) last_first ∙ (λ i. if e i then get_or fs n d ∷ reverse (take n fs) else from_first is (reverse (take n fs)))
