-- A list that keeps what passes a test, one item further.
use Rattle.std.proofs.Common.{◌≡◌, ℕ, ◌+◌, ◌<◌, Bool, true, false, List, [], ◌∷◌, ◌++◌, ap, append-nil, cond, filter, get_or, length, map, sym, take, ◌∙◌}
use Rattle.std.proofs.lemmas.List.{map-append, map_more}
use Rattle.std.proofs.lemmas.List.Elements.{filter-append}

next : {A B : Type 0} (f : A → B) (p : B → Bool) (xs : List A) (k : ℕ) (d : A) (passes : Bool) → k < length xs → p (f (get_or xs k d)) ≡ passes → filter p (map f (take k xs)) ++ cond passes (f (get_or xs k d) ∷ []) [] ≡ filter p (map f (take (k + 1) xs))
next f p xs k d passes h t =
    let front = map f (take k xs) in
    let x = f (get_or xs k d) in
    ap (λ b. filter p front ++ cond b (x ∷ []) []) (sym t) ∙ (sym (filter-append p front (x ∷ [])) ∙ ap (filter p) (sym (map_more f xs k d h)))

pub kept_more : {A B : Type 0} (f : A → B) (p : B → Bool) (first : B) (xs : List A) (k : ℕ) (d : A) (old new : List A) → k < length xs → map f old ≡ first ∷ filter p (map f (take k xs)) → p (f (get_or xs k d)) ≡ true → new ≡ old ++ get_or xs k d ∷ [] → map f new ≡ first ∷ filter p (map f (take (k + 1) xs))
kept_more f p first xs k d old new h e t n =
    ap (map f) n ∙ (map-append f old (get_or xs k d ∷ []) ∙ (ap (λ l. l ++ f (get_or xs k d) ∷ []) e ∙ ap (λ l. first ∷ l) (next f p xs k d true h t)))

pub kept_same : {A B : Type 0} (f : A → B) (p : B → Bool) (first : B) (xs : List A) (k : ℕ) (d : A) (old : List A) → k < length xs → map f old ≡ first ∷ filter p (map f (take k xs)) → p (f (get_or xs k d)) ≡ false → map f old ≡ first ∷ filter p (map f (take (k + 1) xs))
kept_same f p first xs k d old h e t =
    e ∙ ap (λ l. first ∷ l) (sym (append-nil (filter p (map f (take k xs)))) ∙ next f p xs k d false h t)
