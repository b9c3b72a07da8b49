-- A table that is filled is the one of the draws.
use Rattle.std.proofs.Common.{◌≡◌, ℕ, ◌+◌, ◌<◌, ◌≤◌, List, [], ◌∷◌, drop, get_or, length, map, min, refl, ap, ap₂, sym, ◌∙◌, inl, inr, ◌⊎◌, arith}
use Rattle.std.proofs.lemmas.Bool.{cases_lt}
use Rattle.std.proofs.lemmas.List.{drop_more, drop_all}
use Rattle.cv_meaning.specs.contexts.Inlined.{Drawn}
use Rattle.cv_inline.specs.Draws.{drawn_by}
use Rattle.cv_inline_sites.specs.declared.listing.draws.Draw.{Draw}
use Rattle.cv_inline_sites.specs.listing.Listed.{draw_in, role_in}
use Rattle.cv_inline_draws.specs.drawing.Tables.{nothing, with_label, with_labels, with_name, with_names}

names_are : (ds : List Draw) (xs : List ℕ) → with_names ds xs nothing ≡ drawn_by (map draw_in ds) xs [] []
names_are [] xs = refl
names_are (d ∷ ds) [] = refl
names_are (d ∷ ds) (x ∷ xs) = ap (with_name (role_in d.role) x) (names_are ds xs)

labels_are : (ds : List Draw) (xs : List ℕ) (fs : List (ℕ × ℕ)) (ls : List ℕ) → with_labels fs ls (drawn_by (map draw_in ds) xs [] []) ≡ drawn_by (map draw_in ds) xs fs ls
labels_are ds xs [] ls = refl
labels_are ds xs (f ∷ fs) [] = refl
labels_are ds xs (f ∷ fs) (l ∷ ls) = ap (with_label f l) (labels_are ds xs fs ls)

pub filled : (ds : List Draw) (xs : List ℕ) (fs : List (ℕ × ℕ)) (ls : List ℕ) (one two three : Drawn) → one ≡ nothing → two ≡ with_names ds xs one → three ≡ with_labels fs ls two → three ≡ drawn_by (map draw_in ds) xs fs ls
filled ds xs fs ls one two three e f g = g ∙ (ap (with_labels fs ls) (f ∙ (ap (with_names ds xs) e ∙ names_are ds xs)) ∙ labels_are ds xs fs ls)

-- one more name, from the last one on

pub names_more : (ds : List Draw) (xs : List ℕ) (start old new : Drawn) (i : ℕ) (d : Draw) (x : ℕ) → i < length ds → i < length xs → old ≡ with_names (drop (i + 1) ds) (drop (i + 1) xs) start →
    new ≡ with_name (role_in (get_or ds i d).role) (get_or xs i x) old → new ≡ with_names (drop i ds) (drop i xs) start
names_more ds xs start old new i d x h k e f =
    f ∙ (ap (with_name (role_in (get_or ds i d).role) (get_or xs i x)) e ∙ sym (ap₂ (λ rs ys. with_names rs ys start) (drop_more ds i d h) (drop_more xs i x k)))

pub labels_more : (fs : List (ℕ × ℕ)) (ls : List ℕ) (start old new : Drawn) (i : ℕ) (f : ℕ × ℕ) (l : ℕ) → i < length fs → i < length ls → old ≡ with_labels (drop (i + 1) fs) (drop (i + 1) ls) start →
    new ≡ with_label (get_or fs i f) (get_or ls i l) old → new ≡ with_labels (drop i fs) (drop i ls) start
labels_more fs ls start old new i f l h k e g =
    g ∙ (ap (with_label (get_or fs i f) (get_or ls i l)) e ∙ sym (ap₂ (λ rs ys. with_labels rs ys start) (drop_more fs i f h) (drop_more ls i l k)))

-- at the start there is nothing

no_names : (ds : List Draw) (start : Drawn) → start ≡ with_names ds [] start
no_names [] start = refl
no_names (d ∷ ds) start = refl

no_labels : (fs : List (ℕ × ℕ)) (start : Drawn) → start ≡ with_labels fs [] start
no_labels [] start = refl
no_labels (f ∷ fs) start = refl

pub names_begin : (ds : List Draw) (xs : List ℕ) (start : Drawn) (i : ℕ) → (length ds ≤ i) ⊎ (length xs ≤ i) → start ≡ with_names (drop i ds) (drop i xs) start
names_begin ds xs start i (inl h) = ap (λ rs. with_names rs (drop i xs) start) (sym (drop_all i ds h))
names_begin ds xs start i (inr h) = no_names (drop i ds) start ∙ ap (λ ys. with_names (drop i ds) ys start) (sym (drop_all i xs h))

pub labels_begin : (fs : List (ℕ × ℕ)) (ls : List ℕ) (start : Drawn) (i : ℕ) → (length fs ≤ i) ⊎ (length ls ≤ i) → start ≡ with_labels (drop i fs) (drop i ls) start
labels_begin fs ls start i (inl h) = ap (λ rs. with_labels rs (drop i ls) start) (sym (drop_all i fs h))
labels_begin fs ls start i (inr h) = no_labels (drop i fs) start ∙ ap (λ ys. with_labels (drop i fs) ys start) (sym (drop_all i ls h))

pub least_is_one : (a b i : ℕ) → i ≡ min a b → (a ≤ i) ⊎ (b ≤ i)
least_is_one a b i e = elim (cases_lt a b) [ inl h ↦ inl (omega arith) | inr h ↦ inr (omega arith) ]
