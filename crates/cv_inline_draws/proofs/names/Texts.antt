-- Texts of names: equality, those that stay, and those that are taken.
use Rattle.std.proofs.Common.{◌≡◌, ◌≢◌, ℕ, ◌<◌, Bool, true, false, ◌==◌, ◌||◌, List, [], ◌∷◌, ◌++◌, All, Some, length, take, get_or, refl, ap, ap₂, sym, ◌∙◌}
use Rattle.std.specs.Prelude.{slice_get}
use Rattle.std.proofs.lemmas.Bool.{eqb-true, eq-eqb, false_from_ne_true, and_parts}
use Rattle.std.proofs.lemmas.List.Elements.{All-tail, All-head}
use Rattle.std.proofs.lemmas.Option.{slice_get-get_or, get_or_from_slice_get}
use Rattle.std.proofs.lemmas.List.{get_or-take}
use Rattle.std.proofs.lemmas.List.Folds.{list_any_none}
use Rattle.std.proofs.lemmas.Map.Keys.{any_passes_from_place}
use Rattle.cv_inline.specs.Draws.{is_among, same_text}
use Rattle.cv_inline_draws.specs.names.Texts.{is_listed, text_at, texts_at, with_text, with_texts}

pub same_text_refl : (t : List ℕ) → same_text t t ≡ true
same_text_refl [] = refl
same_text_refl (c ∷ cs) = rw (eq-eqb c c refl) (same_text_refl cs)

same_text_true : (t u : List ℕ) → same_text t u ≡ true → t ≡ u
same_text_true [] [] h = refl
same_text_true [] (d ∷ ds) h = cc
same_text_true (c ∷ cs) [] h = cc
same_text_true (c ∷ cs) (d ∷ ds) h = let p = and_parts (c == d) (same_text cs ds) h in ap₂ (λ x xs. x ∷ xs) (eqb-true c d p.0) (same_text_true cs ds p.1)

-- whether a table has a text
pub is_among_has : (names : List (List ℕ)) (t : List ℕ) (n : ℕ) → slice_get names n ≡ Some t → is_among names t ≡ true
is_among_has names t n there = any_passes_from_place (same_text t) names n t there (same_text_refl t)

pub is_among_lacks : (names : List (List ℕ)) (t : List ℕ) → ((n : ℕ) → slice_get names n ≢ Some t) → is_among names t ≡ false
is_among_lacks names t none =
    list_any_none (same_text t) names (λ i d small. false_from_ne_true (same_text t (get_or names i d)) (λ e. none i (slice_get-get_or names i d small ∙ ap (λ u. Some u) (sym (same_text_true t (get_or names i d) e)))))

pub with_texts_push : (names : List (List ℕ)) (ts : List (List ℕ)) (t : List ℕ) → with_texts names (ts ++ t ∷ []) ≡ with_text (with_texts names ts) t
with_texts_push names [] t = refl
with_texts_push names (u ∷ us) t = with_texts_push (with_text names u) us t

-- a text that no name has is not taken
pub is_among_none : (names : List (List ℕ)) (xs : List ℕ) (t : List ℕ) → All (λ x. x < length names) xs → ((n : ℕ) → slice_get names n ≢ Some t) → is_among (texts_at names xs) t ≡ false
is_among_none names [] t live none = refl
is_among_none names (x ∷ xs) t live none =
    let here : same_text t (text_at names x) ≡ false = false_from_ne_true (same_text t (text_at names x)) (λ e. none x (slice_get-get_or names x [] (All-head (λ y. y < length names) x xs live) ∙ ap (λ u. Some u) (sym (same_text_true t (text_at names x) e)))) in
    rw here (is_among_none names xs t (All-tail (λ y. y < length names) x xs live) none)

-- a text that one name has is taken where that name is
pub is_among_one : (names : List (List ℕ)) (xs : List ℕ) (t : List ℕ) (id : ℕ) → All (λ x. x < length names) xs → slice_get names id ≡ Some t → ((n : ℕ) → slice_get names n ≡ Some t → n ≡ id) → is_listed xs id ≡ is_among (texts_at names xs) t
is_among_one names [] t id live there only = refl
is_among_one names (x ∷ xs) t id live there only =
    let t_is : text_at names id ≡ t = get_or_from_slice_get names id t [] there in
    let here : (x == id) ≡ same_text t (text_at names x) = same_answers (x == id) (same_text t (text_at names x)) (λ e. ap (λ y. same_text t (text_at names y)) (eqb-true x id e) ∙ (ap (same_text t) t_is ∙ same_text_refl t)) (λ e. eq-eqb x id (only x (slice_get-get_or names x [] (All-head (λ y. y < length names) x xs live) ∙ ap (λ u. Some u) (sym (same_text_true t (text_at names x) e))))) in
    ap₂ ◌||◌ here (is_among_one names xs t id (All-tail (λ y. y < length names) x xs live) there only) where
      same_answers : (a b : Bool) → (a ≡ true → b ≡ true) → (b ≡ true → a ≡ true) → a ≡ b
      same_answers true b f g = sym (f refl)
      same_answers false true f g = g refl
      same_answers false false f g = refl

-- where names come behind those that were there, these keep their texts
pub text_at_kept : (old new : List (List ℕ)) (x : ℕ) → take (length old) new ≡ old → x < length old → text_at new x ≡ text_at old x
text_at_kept old new x e small = sym (get_or-take (length old) new x [] small) ∙ ap (λ l. get_or l x []) e

pub texts_at_kept : (old new : List (List ℕ)) (xs : List ℕ) → take (length old) new ≡ old → All (λ x. x < length old) xs → texts_at new xs ≡ texts_at old xs
texts_at_kept old new [] e live = refl
texts_at_kept old new (x ∷ xs) e live = ap₂ (λ t ts. t ∷ ts) (text_at_kept old new x e (All-head (λ y. y < length old) x xs live)) (texts_at_kept old new xs e (All-tail (λ y. y < length old) x xs live))
