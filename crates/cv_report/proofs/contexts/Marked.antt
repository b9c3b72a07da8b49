-- Texts with a mark before each, one by one.
use Rattle.std.proofs.Common.{◌≡◌, ℕ, ◌+◌, ◌<◌, ◌≤◌, List, ◌++◌, length, take, get_or, map, append_assoc, ap, sym, ◌∙◌}
use Rattle.std.proofs.lemmas.List.{flat_map_more, take_all, take_more}
use Rattle.std.proofs.lemmas.List.Folds.{flat_map-map}
use Rattle.std.specs.List.{flat_map}

pub marked_goes : {A : Type 0} (mark : List ℕ) (text : A → List ℕ) (xs : List A) (k : ℕ) (d : A) (start out marked new : List ℕ) → k < length xs → out ≡ start ++ flat_map (λ x. mark ++ text x) (take k xs) → marked ≡ out ++ mark → new ≡ marked ++ text (get_or xs k d) → new ≡ start ++ flat_map (λ x. mark ++ text x) (take (k + 1) xs)
marked_goes mark text xs k d start out marked new l i m n =
    n
    ∙ (ap (λ o. o ++ text (get_or xs k d)) (m ∙ ap (λ o. o ++ mark) i)
    ∙ (append_assoc (start ++ flat_map (λ x. mark ++ text x) (take k xs)) mark (text (get_or xs k d))
    ∙ (flat_map_more (λ x. mark ++ text x) start (take k xs) (get_or xs k d)
    ∙ ap (λ ys. start ++ flat_map (λ x. mark ++ text x) ys) (sym (take_more xs k d l)))))

-- the same without a mark
pub each_goes : {A : Type 0} (text : A → List ℕ) (xs : List A) (k : ℕ) (d : A) (start out new : List ℕ) → k < length xs → out ≡ start ++ flat_map text (take k xs) → new ≡ out ++ text (get_or xs k d) → new ≡ start ++ flat_map text (take (k + 1) xs)
each_goes text xs k d start out new l i n =
    n
    ∙ (ap (λ o. o ++ text (get_or xs k d)) i
    ∙ (flat_map_more text start (take k xs) (get_or xs k d)
    ∙ ap (λ ys. start ++ flat_map text ys) (sym (take_more xs k d l))))

pub marked_end : {A : Type 0} (text : A → List ℕ) (xs : List A) (k : ℕ) (start out : List ℕ) → length xs ≤ k → out ≡ start ++ flat_map text (take k xs) → out ≡ start ++ flat_map text xs
marked_end text xs k start out l i = i ∙ ap (λ ys. start ++ flat_map text ys) (take_all k xs l)

pub viewed_end : {A B : Type 0} (text : B → List ℕ) (view : A → B) (xs : List A) (k : ℕ) (start out : List ℕ) → length xs ≤ k → out ≡ start ++ flat_map (λ x. text (view x)) (take k xs) → out ≡ start ++ flat_map text (map view xs)
viewed_end text view xs k start out l i =
    marked_end (λ x. text (view x)) xs k start out l i ∙ ap (λ ys. start ++ ys) (sym (flat_map-map text view xs))
