-- The longest symbol at the front is the one that the first three bytes tell.
use Rattle.std.proofs.Common.{◌≡◌, ℕ, false, ◌==◌, inl, inr, List, [], ◌∷◌, get_or, refl, sym, subst}
use Rattle.std.proofs.lemmas.Bool.{cases_Bool, cases_eq, ne_eqb}
use Rattle.cv_lex.specs.Lexis.{symbols, longest}
use Rattle.cv_lex.specs.Symbols.{symbol_len}

-- what holds at k, and at every other number, holds
at : (P : ℕ → Type 0) (k a : ℕ) → P k → ((a == k) ≡ false → P a) → P a
at P k a here other = elim (cases_eq a k) [ inl e ↦ subst P (sym e) here | inr n ↦ other (ne_eqb a k n) ]

-- behind this first byte the lemma holds
abbrev FirstIs : List ℕ → ℕ → Type 0
FirstIs bs a = longest symbols (a ∷ bs) ≡ symbol_len a (get_or bs 0 0) (get_or bs 1 0)

equals_first : (bs : List ℕ) → FirstIs bs 61
equals_first [] = refl
equals_first (b ∷ []) =
    elim (cases_Bool (b == 61)) [
      | inl e ↦ elim (cases_Bool (b == 62)) [ inl f ↦ simp (e, f) | inr f ↦ simp (e, f) ]
      | inr e ↦ elim (cases_Bool (b == 62)) [ inl f ↦ simp (e, f) | inr f ↦ simp (e, f) ]
    ]
equals_first (b ∷ c ∷ bs) =
    elim (cases_Bool (c == 62)) [
      | inl g ↦ elim (cases_Bool (b == 61)) [
        | inl e ↦ elim (cases_Bool (b == 62)) [ inl f ↦ simp (e, f, g) | inr f ↦ simp (e, f, g) ]
        | inr e ↦ elim (cases_Bool (b == 62)) [ inl f ↦ simp (e, f) | inr f ↦ simp (e, f) ]
      ]
      | inr g ↦ elim (cases_Bool (b == 61)) [
        | inl e ↦ elim (cases_Bool (b == 62)) [ inl f ↦ simp (e, f, g) | inr f ↦ simp (e, f, g) ]
        | inr e ↦ elim (cases_Bool (b == 62)) [ inl f ↦ simp (e, f) | inr f ↦ simp (e, f) ]
      ]
    ]

bar_first : (bs : List ℕ) → FirstIs bs 124
bar_first [] = refl
bar_first (b ∷ bs) = elim (cases_Bool (b == 124)) [ inl e ↦ simp e | inr e ↦ simp e ]

less_first : (bs : List ℕ) → FirstIs bs 60
less_first [] = refl
less_first (b ∷ bs) =
    elim (cases_Bool (b == 61)) [
      | inl e ↦ elim (cases_Bool (b == 62)) [
        | inl f ↦ elim (cases_Bool (b == 45)) [ inl g ↦ simp (e, f, g) | inr g ↦ simp (e, f, g) ]
        | inr f ↦ elim (cases_Bool (b == 45)) [ inl g ↦ simp (e, f, g) | inr g ↦ simp (e, f, g) ]
      ]
      | inr e ↦ elim (cases_Bool (b == 62)) [
        | inl f ↦ elim (cases_Bool (b == 45)) [ inl g ↦ simp (e, f, g) | inr g ↦ simp (e, f, g) ]
        | inr f ↦ elim (cases_Bool (b == 45)) [ inl g ↦ simp (e, f, g) | inr g ↦ simp (e, f, g) ]
      ]
    ]

colon_first : (bs : List ℕ) → FirstIs bs 58
colon_first [] = refl
colon_first (b ∷ bs) = elim (cases_Bool (b == 61)) [ inl e ↦ simp e | inr e ↦ simp e ]

minus_first : (bs : List ℕ) → FirstIs bs 45
minus_first [] = refl
minus_first (b ∷ bs) = elim (cases_Bool (b == 62)) [ inl e ↦ simp e | inr e ↦ simp e ]

and_first : (bs : List ℕ) → FirstIs bs 38
and_first [] = refl
and_first (b ∷ bs) = elim (cases_Bool (b == 38)) [ inl e ↦ simp e | inr e ↦ simp e ]

longest_first : (a : ℕ) (bs : List ℕ) → FirstIs bs a
longest_first a bs =
    at (FirstIs bs) 61 a (equals_first bs) (λ e61.
    at (FirstIs bs) 124 a (bar_first bs) (λ e124.
    at (FirstIs bs) 60 a (less_first bs) (λ e60.
    at (FirstIs bs) 45 a (minus_first bs) (λ e45.
    at (FirstIs bs) 38 a (and_first bs) (λ e38.
    at (FirstIs bs) 40 a refl (λ e40.
    at (FirstIs bs) 41 a refl (λ e41.
    at (FirstIs bs) 91 a refl (λ e91.
    at (FirstIs bs) 93 a refl (λ e93.
    at (FirstIs bs) 123 a refl (λ e123.
    at (FirstIs bs) 125 a refl (λ e125.
    at (FirstIs bs) 44 a refl (λ e44.
    at (FirstIs bs) 59 a refl (λ e59.
    at (FirstIs bs) 58 a (colon_first bs) (λ e58.
    at (FirstIs bs) 46 a refl (λ e46.
    at (FirstIs bs) 33 a refl (λ e33.
    at (FirstIs bs) 64 a refl (λ e64.
    at (FirstIs bs) 39 a refl (λ e39.
    simp (e61, e124, e60, e45, e38, e40, e41, e91, e93, e123, e125, e44, e59, e58, e46, e33, e64, e39)))))))))))))))))))

pub longest_is : (bs : List ℕ) → longest symbols bs ≡ symbol_len (get_or bs 0 0) (get_or bs 1 0) (get_or bs 2 0)
longest_is [] = refl
longest_is (a ∷ bs) = longest_first a bs
