-- Names that are read into a table, and words `expand` in bodies.
use Rattle.std.proofs.Common.{◌≡◌, ◌≢◌, ℕ, zero, suc, ◌+◌, ◌-◌, ◌*◌, ◌<◌, ◌≤◌, ◌⊎◌, inl, inr, true, false, ◌||◌, if◌then◌else◌, List, [], ◌∷◌, ◌++◌, codes, length, map, drop, Option, Some, None, Err, refl, ap, sym, ◌∙◌, subst, arith}
use Rattle.std.specs.Prelude.{All, not, slice_get, slice_range}
use Rattle.std.specs.Str.{bytes_eq}
use Rattle.std.proofs.lemmas.Bool.{both_ways, cases_Bool, cases_lt}
use Rattle.std.proofs.lemmas.List.{append_assoc, append-nil, at_drop_all, drop_all, length_push}
use Rattle.std.proofs.lemmas.Option.{slice_get-get_or}
use Rattle.std.proofs.lemmas.Slice.Eq.{bytes_eq-Decides}
use Rattle.cv_lex.specs.Lexis.{Token}
use Rattle.cv_lex.specs.View.{token_at}
use Rattle.cv_parse_tables.proofs.terminals.Naming.{text_test}
use Rattle.cv_library.specs.declared.error.LibraryError.{LibraryError}
use Rattle.cv_library.specs.declared.error.LibraryError.TheVariants.{Syntax, Twice, Inner, OutOfMemory}
use Rattle.cv_library.specs.declared.forms.Place.{Place}
use Rattle.cv_library.specs.Heads.{alternate}
use Rattle.cv_library.specs.Libraries.{earlier, first_inner, inner_from, is_among, name_at, parameters_at, repeat_at, repeat_from, text_of, tokens_at, twice_from}
use Rattle.cv_library.specs.Tables.{IsTable}
use Rattle.cv_library.proofs.Lists.{alternate_first, alternate_none, range_first, range_none}

-- a text among names

pub among : (names : List (List ℕ)) (text : List ℕ) (n : ℕ) → slice_get names n ≡ Some text → is_among names text ≡ true
among [] text n h = absurd (cc)
among (x ∷ xs) text zero h = let same : bytes_eq x text ≡ true = (bytes_eq-Decides x text).1 (cc) in ap (λ b. b || is_among xs text) same
among (x ∷ xs) text (suc n) h =
    elim (text_test x text) [
      | inl a ↦ ap (λ b. b || is_among xs text) a.0
      | inr b ↦ ap (λ t. t || is_among xs text) b ∙ among xs text n h
    ]

pub not_among : (names : List (List ℕ)) (text : List ℕ) → ((n : ℕ) → slice_get names n ≢ Some text) → is_among names text ≡ false
not_among [] text h = refl
not_among (x ∷ xs) text h =
    elim (text_test x text) [
      | inl a ↦ absurd (h 0 (ap (λ t. Some t) a.1))
      | inr b ↦ ap (λ t. t || is_among xs text) b ∙ not_among xs text (λ n. h (suc n))
    ]

-- names that are read one after another, and that may be what a fault names

pub record IsRead (fault : Option ℕ) (names read : List (List ℕ)) (at : ℕ) (rest : List (List ℕ)) : Type 0 where
  pub faults : repeat_from read at rest ≡ fault
  pub all : read ++ rest ≡ names

module _ (fault : Option ℕ) (names read : List (List ℕ)) (at : ℕ) where
  pub read_more : (x : List ℕ) (rest more : List (List ℕ)) → IsRead fault names read at (x ∷ rest) → true ≡ not (is_among read x) → more ≡ (if is_among read x then read else read ++ x ∷ []) → IsRead fault names more (at + 2) rest
  unfolding repeat_from
  read_more x rest more r new e =
      elim (cases_Bool (is_among read x)) [
        | inl t ↦ absurd (both_ways true (new ∙ ap not t) refl)
        | inr f ↦
            let pushed : more ≡ read ++ x ∷ [] = e ∙ ap (λ b. if b then read else read ++ x ∷ []) f in
            record {
              faults = ap (λ l. repeat_from l (at + 2) rest) pushed ∙ ap (λ b. if b then Some at else repeat_from (read ++ x ∷ []) (at + 2) rest) (sym f) ∙ r.faults;
              all = ap (λ l. l ++ rest) pushed ∙ append_assoc read (x ∷ []) rest ∙ r.all;
            }
      ]

  pub read_twice : (x : List ℕ) (rest : List (List ℕ)) → IsRead fault names read at (x ∷ rest) → false ≡ not (is_among read x) → fault ≡ Some at
  unfolding repeat_from
  read_twice x rest r old =
      elim (cases_Bool (is_among read x)) [
        | inl t ↦ sym r.faults ∙ ap (λ b. if b then Some at else repeat_from (read ++ x ∷ []) (at + 2) rest) t
        | inr f ↦ absurd (both_ways false refl (old ∙ ap not f))
      ]

  pub read_whole : IsRead fault names read at [] → (fault ≡ None) × (read ≡ names)
  unfolding repeat_from
  read_whole r = (sym r.faults, sym (append-nil read) ∙ r.all)

-- the parameters of a definition, of which so many are read
abbrev pub AreRead : List Token → Place → (read : List (List ℕ)) → (i count : ℕ) → Type 0
AreRead ts p read i count = IsRead (repeat_at ts p) (parameters_at ts p) read (p.word + 3 + 2 * i) (map text_of (alternate ts (p.word + 3 + 2 * i) (count - i)))

module _ (ts : List Token) (p : Place) (read : List (List ℕ)) (i count : ℕ) (are : AreRead ts p read i count) where
  first_parameter : i < count → IsRead (repeat_at ts p) (parameters_at ts p) read (p.word + 3 + 2 * i) ((token_at ts (p.word + 3 + 2 * i)).text ∷ map text_of (alternate ts (p.word + 3 + 2 * (i + 1)) (count - (i + 1))))
  first_parameter h = subst (λ l. IsRead (repeat_at ts p) (parameters_at ts p) read (p.word + 3 + 2 * i) (map text_of l)) (alternate_first ts (p.word + 3) i count h) are

  pub parameter_more : i < count → (x : List ℕ) (more : List (List ℕ)) → x ≡ (token_at ts (p.word + 3 + 2 * i)).text → true ≡ not (is_among read x) → more ≡ (if is_among read x then read else read ++ x ∷ []) → AreRead ts p more (i + 1) count
  parameter_more h x more x_is new e =
      let next : p.word + 3 + 2 * i + 2 ≡ p.word + 3 + 2 * (i + 1) = omega arith in
      subst (λ k. IsRead (repeat_at ts p) (parameters_at ts p) more k (map text_of (alternate ts (p.word + 3 + 2 * (i + 1)) (count - (i + 1))))) next
      (read_more (repeat_at ts p) (parameters_at ts p) read (p.word + 3 + 2 * i) (token_at ts (p.word + 3 + 2 * i)).text _ more (first_parameter h)
      (subst (λ y. true ≡ not (is_among read y)) x_is new)
      (subst (λ y. more ≡ (if is_among read y then read else read ++ y ∷ [])) x_is e))

  pub parameter_twice : i < count → (x : List ℕ) → x ≡ (token_at ts (p.word + 3 + 2 * i)).text → false ≡ not (is_among read x) → repeat_at ts p ≡ Some (p.word + 3 + 2 * i)
  parameter_twice h x x_is old =
      read_twice (repeat_at ts p) (parameters_at ts p) read (p.word + 3 + 2 * i) (token_at ts (p.word + 3 + 2 * i)).text _ (first_parameter h) (subst (λ y. false ≡ not (is_among read y)) x_is old)

  pub parameters_all : count ≤ i → (repeat_at ts p ≡ None) × (read ≡ parameters_at ts p)
  parameters_all h =
      read_whole (repeat_at ts p) (parameters_at ts p) read (p.word + 3 + 2 * i)
      (subst (λ l. IsRead (repeat_at ts p) (parameters_at ts p) read (p.word + 3 + 2 * i) (map text_of l)) (alternate_none ts (p.word + 3 + 2 * i) i count h) are)

-- the names of definitions, of which so many are read
pub record AreNamed (ts : List Token) (ps : List Place) (read : List (List ℕ)) (i : ℕ) : Type 0 where
  pub faults : twice_from ts read (drop i ps) ≡ twice_from ts [] ps
  pub all : read ++ map (name_at ts) (drop i ps) ≡ map (name_at ts) ps
  pub apart : (k : ℕ) → k < i → k < length ps → (q : Place) → slice_get ps k ≡ Some q → repeat_at ts q ≡ None

-- words `expand`

pub inner_more : (ts : List Token) (p : Place) (k : ℕ) → k < p.end → k < length ts → false ≡ bytes_eq (token_at ts k).text (codes "expand") → inner_from k (slice_range ts k p.end) ≡ inner_from (k + 1) (slice_range ts (k + 1) p.end)
unfolding inner_from
inner_more ts p k h l e =
    ap (inner_from k) (range_first ts k p.end h l)
    ∙ ap (λ b. if b then Some k else inner_from (k + 1) (slice_range ts (k + 1) p.end)) (sym e)

pub inner_found : (ts : List Token) (p : Place) (k : ℕ) → k < p.end → k < length ts → true ≡ bytes_eq (token_at ts k).text (codes "expand") → inner_from k (slice_range ts k p.end) ≡ Some k
unfolding inner_from
inner_found ts p k h l e =
    ap (inner_from k) (range_first ts k p.end h l)
    ∙ ap (λ b. if b then Some k else inner_from (k + 1) (slice_range ts (k + 1) p.end)) (sym e)

pub inner_none : (ts : List Token) (end : ℕ) → inner_from end (slice_range ts end end) ≡ None
unfolding inner_from
inner_none ts end = ap (inner_from end) (range_none ts end)

-- the names of definitions, one by one

module _ (ts : List Token) (ps : List Place) (read : List (List ℕ)) (i : ℕ) (are : AreNamed ts ps read i) (p : Place) (here : drop i ps ≡ p ∷ drop (i + 1) ps) where
  pub name_twice : (x : List ℕ) → x ≡ name_at ts p → false ≡ not (is_among read x) → twice_from ts [] ps ≡ Some (p.word + 1)
  unfolding twice_from
  name_twice x x_is old =
      elim (cases_Bool (is_among read x)) [
        | inl t ↦
            sym are.faults ∙ ap (twice_from ts read) here
            ∙ ap (λ b. if b then Some (p.word + 1) else earlier (repeat_at ts p) (twice_from ts (read ++ name_at ts p ∷ []) (drop (i + 1) ps))) (ap (is_among read) (sym x_is) ∙ t)
        | inr f ↦ absurd (both_ways false refl (old ∙ ap not f))
      ]

  after_name : (x : List ℕ) → x ≡ name_at ts p → true ≡ not (is_among read x) → twice_from ts [] ps ≡ earlier (repeat_at ts p) (twice_from ts (read ++ name_at ts p ∷ []) (drop (i + 1) ps))
  unfolding twice_from
  after_name x x_is new =
      elim (cases_Bool (is_among read x)) [
        | inl t ↦ absurd (both_ways true (new ∙ ap not t) refl)
        | inr f ↦
            sym are.faults ∙ ap (twice_from ts read) here
            ∙ ap (λ b. if b then Some (p.word + 1) else earlier (repeat_at ts p) (twice_from ts (read ++ name_at ts p ∷ []) (drop (i + 1) ps))) (ap (is_among read) (sym x_is) ∙ f)
      ]

  pub parameter_first : (x : List ℕ) (k : ℕ) → x ≡ name_at ts p → true ≡ not (is_among read x) → repeat_at ts p ≡ Some k → twice_from ts [] ps ≡ Some k
  parameter_first x k x_is new r = after_name x x_is new ∙ ap (λ o. earlier o (twice_from ts (read ++ name_at ts p ∷ []) (drop (i + 1) ps))) r

  pub named_more : (x : List ℕ) (more : List (List ℕ)) → x ≡ name_at ts p → true ≡ not (is_among read x) → more ≡ (if is_among read x then read else read ++ x ∷ []) → repeat_at ts p ≡ None → slice_get ps i ≡ Some p → AreNamed ts ps more (i + 1)
  named_more x more x_is new e none stands =
      elim (cases_Bool (is_among read x)) [
        | inl t ↦ absurd (both_ways true (new ∙ ap not t) refl)
        | inr f ↦
            let pushed : more ≡ read ++ name_at ts p ∷ [] = e ∙ ap (λ b. if b then read else read ++ x ∷ []) f ∙ ap (λ y. read ++ y ∷ []) x_is in
            record {
              faults =
                  ap (λ l. twice_from ts l (drop (i + 1) ps)) pushed
                  ∙ sym (after_name x x_is new ∙ ap (λ o. earlier o (twice_from ts (read ++ name_at ts p ∷ []) (drop (i + 1) ps))) none);
              all =
                  ap (λ l. l ++ map (name_at ts) (drop (i + 1) ps)) pushed
                  ∙ append_assoc read (name_at ts p ∷ []) (map (name_at ts) (drop (i + 1) ps))
                  ∙ ap (λ l. read ++ map (name_at ts) l) (sym here) ∙ are.all;
              apart = λ k h l q g. at_most k q (cases_lt k i) h l g;
            }
      ]
    where
      at_most : (k : ℕ) (q : Place) → (k < i) ⊎ (i ≤ k) → k < i + 1 → k < length ps → slice_get ps k ≡ Some q → repeat_at ts q ≡ None
      at_most k q (inl below) h l g = are.apart k below l q g
      at_most k q (inr last) h l g =
          let same : k ≡ i = omega arith in
          let is : p ≡ q = let both : Some p ≡ Some q = sym stands ∙ ap (slice_get ps) (sym same) ∙ g in cc in
          ap (repeat_at ts) (sym is) ∙ none

-- the same of the parameters of a definition
module _ (ts : List Token) (ps : List Place) (read : List (List ℕ)) (i : ℕ) (are : AreNamed ts ps read i) (p : Place) (here : drop i ps ≡ p ∷ drop (i + 1) ps) where
  pub names_refused : (x : List ℕ) → x ≡ name_at ts p → true ≡ not (is_among read x) → (e : LibraryError) → IsTable (repeat_at ts p) (parameters_at ts p) (Err e) → IsTable (twice_from ts [] ps) (map (name_at ts) ps) (Err e)
  names_refused x x_is new (Syntax k) t = t
  names_refused x x_is new (Twice k) t = parameter_first ts ps read i are p here x k x_is new t
  names_refused x x_is new (Inner k) t = t
  names_refused x x_is new OutOfMemory t = tt

pub named_all : (ts : List Token) (ps : List Place) (read : List (List ℕ)) (i : ℕ) → AreNamed ts ps read i → length ps ≤ i → (twice_from ts [] ps ≡ None) × (read ≡ map (name_at ts) ps)
unfolding twice_from
named_all ts ps read i are h = (
  sym are.faults ∙ at_drop_all (twice_from ts read) ps i h,
  sym (append-nil read) ∙ ap (λ l. read ++ map (name_at ts) l) (sym (drop_all i ps h)) ∙ are.all,
)

pub named_apart : (ts : List Token) (ps : List Place) (read : List (List ℕ)) (i : ℕ) → AreNamed ts ps read i → length ps ≤ i → All (λ p. repeat_at ts p ≡ None) ps
named_apart ts ps read i are h = λ k d l. are.apart k (omega arith) l _ (slice_get-get_or ps k d l)

-- a table has one name more at most
pub one_longer : (read more : List (List ℕ)) (x : List ℕ) → more ≡ (if is_among read x then read else read ++ x ∷ []) → length more ≤ length read + 1
one_longer read more x e =
    elim (cases_Bool (is_among read x)) [
      | inl t ↦ omega (arith, ap length (e ∙ ap (λ b. if b then read else read ++ x ∷ []) t))
      | inr f ↦ omega (arith, ap length (e ∙ ap (λ b. if b then read else read ++ x ∷ []) f), length_push read x)
    ]

-- words `expand`, body by body

module _ (ts : List Token) (ps : List Place) (i : ℕ) (p : Place) (here : drop i ps ≡ p ∷ drop (i + 1) ps) where
  bodies_more : (o : Option ℕ) → o ≡ inner_from (p.brace + 1) (tokens_at ts p) → first_inner ts (drop i ps) ≡ earlier o (first_inner ts (drop (i + 1) ps))
  unfolding first_inner
  bodies_more o e = ap (first_inner ts) here ∙ ap (λ o. earlier o (first_inner ts (drop (i + 1) ps))) (sym e)

  pub bodies_found : (k : ℕ) → Some k ≡ inner_from (p.brace + 1) (tokens_at ts p) → first_inner ts (drop i ps) ≡ first_inner ts ps → Some k ≡ first_inner ts ps
  bodies_found k e h = sym (bodies_more (Some k) e) ∙ h

  pub bodies_on : None ≡ inner_from (p.brace + 1) (tokens_at ts p) → first_inner ts (drop i ps) ≡ first_inner ts ps → first_inner ts (drop (i + 1) ps) ≡ first_inner ts ps
  bodies_on e h = sym (bodies_more None e) ∙ h

pub bodies_over : (ts : List Token) (ps : List Place) (i : ℕ) → length ps ≤ i → first_inner ts (drop i ps) ≡ first_inner ts ps → None ≡ first_inner ts ps
unfolding first_inner
bodies_over ts ps i l h = sym (at_drop_all (first_inner ts) ps i l) ∙ h
