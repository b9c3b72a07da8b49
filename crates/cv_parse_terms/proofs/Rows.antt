-- Reading many, one after another.
use Rattle.std.proofs.Common.{◌≡◌, ℕ, zero, suc, ◌+◌, ◌-◌, ◌<◌, ◌≤◌, true, false, List, [], ◌∷◌, ◌++◌, length, drop, refl, ap, ap₂, sym, ◌∙◌, arith, subst, Err, Ok, append_assoc, append-nil, length-drop}
use Rattle.cv_parse_notation.specs.declared.sign.Sign.{Sign}
use Rattle.cv_parse_notation.specs.declared.sign.Mark.{Mark}
use Rattle.cv_parse_notation.specs.Form.{◌▸◌, many}
use Rattle.cv_parse_notation.specs.Spells.{next_is, Use, starts, may_vanish, is_steady, IsSort, no_sort}
use Rattle.cv_parse_notation.specs.Reads.{Fault, Read, Found, Syntax, Nesting, ◌>>=◌, found, one_more, joined, mapped, read_many, read_sort, too_deep}
use Rattle.cv_parse_notation.proofs.Many.{many_ends, many_more, many_fails}
use Rattle.cv_parse_notation.proofs.Lengths.{lengths, toll}
use Rattle.cv_parse_notation.proofs.Sound.{sound, no_ok}
use Rattle.cv_parse_notation.proofs.Sorts.{read_is_spelled, shorter}
use Rattle.cv_parse_terms.specs.declared.lookahead.ReadError.{ReadError}
use Rattle.cv_parse_terms.specs.declared.lookahead.ReadError.TheVariants as error
use Rattle.cv_parse_grammar.specs.declared.role.Role.{Role}
use Rattle.cv_parse_terms.specs.declared.trail.NameUse.{NameUse}
use Rattle.cv_parse_grammar.specs.Phrases.{Phrase, row}
use Rattle.cv_parse_grammar.specs.Rules.{rule, heads, tails}
use Rattle.cv_parse_terms.specs.Gives.{Fails, IsRead, uses_of, read_in}
use Rattle.cv_parse_grammar.proofs.Fitting.{all_fit}

-- what is read takes a token
pub reading_shortens : {A : Type 0} (n : ℕ) (f : Phrase A) → is_steady f ≡ true → may_vanish f ≡ false → (ts : List Sign) (x : Found Role A) → read_in n f ts ≡ Ok x → length x.rest < length ts
reading_shortens zero f s v ts x e =
    let d = sound heads false no_sort (λ s ts t us rest d. absurd d) (too_deep heads) (λ q us y d. absurd (no_ok (next_is (heads q) us) us y d)) f s ts x e in
    let l = lengths heads false no_sort (λ s ts t us rest d. absurd d) f ts x.value x.uses x.rest d in
    subst (λ b. length x.rest + toll b ≤ length ts → length x.rest < length ts) (sym v) (λ h. omega arith) l
reading_shortens (suc n) f s v ts x e =
    let d = sound heads true (IsSort heads rule n) (shorter heads tails rule all_fit n) (read_sort heads rule n) (read_is_spelled heads tails rule all_fit n) f s ts x e in
    let l = lengths heads true (IsSort heads rule n) (shorter heads tails rule all_fit n) f ts x.value x.uses x.rest d in
    subst (λ b. length x.rest + toll b ≤ length ts → length x.rest < length ts) (sym v) (λ h. omega arith) l

-- what was read before goes in front
abbrev pub prefixed : {A : Type 0} → List A → List (Use Role) → Found Role (List A) → Read Role (List A)
prefixed xs us y = found (xs ++ y.value) (us ++ y.uses) y.rest

-- The whole is what was read so far, and what is read from the place on.
pub record SoFar {A : Type 0} (n : ℕ) (f : Phrase A) (all : List Sign) (old new : List NameUse) (whole : Read Role (List A)) (xs : List A) (place : ℕ) : Type 0 where
  pub uses : List (Use Role)
  pub is : whole ≡ (read_many (starts heads f) (read_in n f) (length (drop place all)) (drop place all) >>= prefixed xs uses)
  pub noted : uses_of new ≡ uses_of old ++ uses
  pub within : place ≤ length all

-- a turn
one_then : {A : Type 0} (x : Found Role A) (xs : List A) (us : List (Use Role)) (r : Read Role (List A)) → ((r >>= one_more x) >>= prefixed xs us) ≡ (r >>= prefixed (xs ++ x.value ∷ []) (us ++ x.uses))
one_then x xs us (Err e) = refl
one_then x xs us (Ok y) = ap₂ (λ bs vs. found bs vs y.rest) (sym (append_assoc xs (x.value ∷ []) y.value)) (sym (append_assoc us x.uses y.uses))

first_then : {A : Type 0} (x : Found Role A) (r : Read Role (List A)) → ((r >>= joined x) >>= mapped (λ (a, l). a ∷ l)) ≡ (r >>= prefixed (x.value ∷ []) x.uses)
first_then x (Err e) = refl
first_then x (Ok y) = refl

nothing_then : {A : Type 0} (r : Read Role (List A)) → r ≡ (r >>= prefixed [] [])
nothing_then (Err e) = refl
nothing_then (Ok y) = refl

pub many_begins : {A : Type 0} (n : ℕ) (f : Phrase A) (all : List Sign) (us : List NameUse) (at : ℕ) → at ≤ length all → SoFar n f all us us (read_in n (many false f) (drop at all)) [] at
many_begins n f all us at l = record { uses = []; is = nothing_then (read_in n (many false f) (drop at all)); noted = sym (append-nil (uses_of us)); within = l }

pub many_goes : {A : Type 0} (n : ℕ) (f : Phrase A) → is_steady f ≡ true → may_vanish f ≡ false → (all : List Sign) (u v w : List NameUse) (whole : Read Role (List A)) (xs ys : List A) (p : ℕ) (a : A) (q : ℕ) → SoFar n f all u v whole xs p → next_is (starts heads f) (drop p all) ≡ true → IsRead all v w (read_in n f (drop p all)) a q → ys ≡ xs ++ a ∷ [] → SoFar n f all u w whole ys q
many_goes n f s v all u0 u1 u2 whole xs ys p a q so h d e =
    let x : Found Role _ = record { value = a; uses = d.uses; rest = drop q all } in
    record {
      uses = so.uses ++ d.uses;
      is =
          (so.is ∙ (ap (λ r. r >>= prefixed xs so.uses) (many_more (starts heads f) (read_in n f) (reading_shortens n f s v) (drop p all) x h d.is)
          ∙ one_then x xs so.uses (read_many (starts heads f) (read_in n f) (length (drop q all)) (drop q all))))
          ∙ ap (λ zs. read_many (starts heads f) (read_in n f) (length (drop q all)) (drop q all) >>= prefixed zs (so.uses ++ d.uses)) (sym e);
      noted = d.noted ∙ (ap (λ us. us ++ d.uses) so.noted ∙ append_assoc (uses_of u0) so.uses d.uses);
      within = d.within;
    }

pub many_done : {A : Type 0} (n : ℕ) (f : Phrase A) → is_steady f ≡ true → may_vanish f ≡ false → (all : List Sign) (u v : List NameUse) (whole : Read Role (List A)) (xs : List A) (place : ℕ) → SoFar n f all u v whole xs place → next_is (starts heads f) (drop place all) ≡ false → IsRead all u v whole xs place
many_done n f s v all u w whole xs place so h = record {
  uses = so.uses;
  is =
      so.is ∙ (ap (λ r. r >>= prefixed xs so.uses) (many_ends (starts heads f) (read_in n f) (reading_shortens n f s v) (drop place all) h)
      ∙ ap₂ (λ bs vs. found bs vs (drop place all)) (append-nil xs) (append-nil so.uses));
  noted = so.noted;
  within = so.within;
}

fault_stays : {A : Type 0} (n : ℕ) (g : Phrase A) → is_steady g ≡ true → may_vanish g ≡ false → (all : List Sign) (u v : List NameUse) (whole : Read Role (List A)) (xs : List A) (place : ℕ) (f : Fault) → SoFar n g all u v whole xs place → next_is (starts heads g) (drop place all) ≡ true → read_in n g (drop place all) ≡ Err f → whole ≡ Err f
fault_stays n g s v all u w whole xs place f so h e = so.is ∙ ap (λ r. r >>= prefixed xs so.uses) (many_fails (starts heads g) (read_in n g) (reading_shortens n g s v) (drop place all) f h e)

pub many_stops : {A : Type 0} (n : ℕ) (f : Phrase A) → is_steady f ≡ true → may_vanish f ≡ false → (all : List Sign) (u v : List NameUse) (whole : Read Role (List A)) (xs : List A) (place : ℕ) (e : ReadError) → SoFar n f all u v whole xs place → next_is (starts heads f) (drop place all) ≡ true → Fails all e (read_in n f (drop place all)) → Fails all e whole
many_stops n f s v all u w whole xs place (error.Syntax k) so h e = (e.0, fault_stays n f s v all u w whole xs place (Syntax _) so h e.1)
many_stops n f s v all u w whole xs place (error.Nesting k) so h e = (e.0, fault_stays n f s v all u w whole xs place (Nesting _) so h e.1)
many_stops n f s v all u w whole xs place error.OutOfMemory so h e = tt

-- rows: a phrase, and others behind a symbol

pub row_begins : {A : Type 0} (n : ℕ) (m : Mark) (f : Phrase A) (all : List Sign) (u v : List NameUse) (at : ℕ) (a : A) (p : ℕ) → IsRead all u v (read_in n f (drop at all)) a p → SoFar n (m ▸ f) all u v (read_in n (row m f) (drop at all)) (a ∷ []) p
row_begins n m f all u v at a p d =
    let x : Found Role _ = record { value = a; uses = d.uses; rest = drop p all } in
    record {
      uses = d.uses;
      is =
          ap (λ r. (r >>= λ x. read_many (starts heads (m ▸ f)) (read_in n (m ▸ f)) (length x.rest) x.rest >>= joined x) >>= mapped (λ (a, l). a ∷ l)) d.is
          ∙ first_then x (read_many (starts heads (m ▸ f)) (read_in n (m ▸ f)) (length (drop p all)) (drop p all));
      noted = d.noted;
      within = d.within;
    }

pub ruleset rows = (row_begins, many_begins, many_goes, many_done, many_stops)

pub read_grows : {A : Type 0} (n : ℕ) (f : Phrase A) → is_steady f ≡ true → may_vanish f ≡ false → (all : List Sign) (u v : List NameUse) (p q : ℕ) (a : A) → p ≤ length all → IsRead all u v (read_in n f (drop p all)) a q → length all - q < length all - p
read_grows n f s v all a b p q x h d =
    let less = reading_shortens n f s v (drop p all) _ d.is in
    let x = length-drop p all in
    let y = length-drop q all in
    omega arith
