-- Two left events whose routes end at one execution of a right event are one, where their pair is derived.
use Rattle.std.proofs.Common.{◌≡◌, ◌≢◌, ℕ, ◌+◌, ◌<◌, ◌≤◌, Bool, true, false, cond, ◌||◌, ◌==◌, not, List, [], ◌∷◌, length, map, take, inl, inr, Option, Some, None, is_some, refl, sym, ap, ap₂, subst, ◌∙◌, arith, eq-eqb, eqb-true}
use Rattle.std.proofs.lemmas.List.{length-map}
use Rattle.std.proofs.lemmas.Bool.{and_parts, both_ways}
use Rattle.std.specs.List.{AllByRecursion, list_any}
use Rattle.cv_syntax_trees.proofs.lists.Options.{none_from_not_some}
use Rattle.cv_syntax_trees.specs.declared.head.Head.{Head}
use Rattle.cv_syntax_trees.specs.declared.head.Head.TheVariants.{Event, Find, If, Pair}
use Rattle.cv_syntax_trees.specs.Head.{weight}
use Rattle.cv_syntax_trees.specs.Tree.{Tree, Empty, Node, chain, size, subtree}
use Rattle.cv_syntax.specs.Layouts.{IsSyntax}
use Rattle.cv_meaning.specs.Interpretation.{Interpretation, Setting, setting_of}
use Rattle.cv_meaning.specs.Memory.{Indices, Memory, Store, tuple}
use Rattle.cv_meaning.specs.Satisfies.{Satisfies}
use Rattle.cv_meaning.specs.Terms.{bit, found_in, value, values}
use Rattle.cv_meaning.specs.Tapes.{Tape}
use Rattle.cv_meaning.specs.Runs.{Adversary, Events}
use Rattle.cv_meaning.specs.Experiments.{run, visits_of_run}
use Rattle.cv_meaning.specs.Serving.{Visit}
use Rattle.cv_meaning_laws.specs.adequacy.Broken.{StandsAt}
use Rattle.cv_scope_rules.specs.Above.{stands_at}
use Rattle.cv_scope_rules.specs.Behind.{sites_of}
use Rattle.cv_scope_rules.specs.Context.{Context}
use Rattle.cv_scope_runs.proofs.Plain.{game_context}
use Rattle.cv_derive_facts.specs.Definitions.{IsBehind}
use Rattle.cv_scene.specs.Derivations.{Derives, first_bad_line}
use Rattle.cv_scene.specs.Late.{index_term}
use Rattle.cv_scene.specs.Pairs.{of_second, pair_at, second_index, second_indices}
use Rattle.cv_scene.specs.Scenes.{Scene}
use Rattle.cv_scene.specs.Terms.{replications_at, replications_by}
use Rattle.cv_scene.specs.lines.Ends.{ends_with}
use Rattle.cv_scene.specs.lines.Lines.{lines_of, statements}
use Rattle.cv_scene.specs.lines.Truths.{no}
use Rattle.cv_derive_laws.specs.reached.Copies.{AreReached, AreReachedInPairs, HoldInPairs, IsAbove, both_copies}
use Rattle.cv_derive_laws.specs.reached.Fine.{IsFine, IsFineTerm}
use Rattle.cv_derive_laws.specs.stores.Holding.{HoldAtVisit, IsReady}
use Rattle.cv_derive_laws.specs.stores.Truth.{AreApart, AreTrue, IsTrue}
use Rattle.cv_derive_laws.proofs.Truths.{nought_one}
use Rattle.cv_query_certificates.specs.PairParts.{ArePairs, IsPair, proves_pair, saying}
use Rattle.cv_query_certificates.specs.Marks.{plain}
use Rattle.cv_query_certificates.specs.Pairs.{End, Needed, ends_of_pair, ends_of_parting, equations_between, parting, same_indices}
use Rattle.cv_query_laws.specs.visits.Bodies.{LiesInBody}
use Rattle.cv_query_laws.specs.visits.Visited.{head_is_visited}
use Rattle.cv_query_laws.proofs.correspondences.Behind.{IsAmong}
use Rattle.cv_query_laws.proofs.routes.Executed.{holds_at}
use Rattle.cv_query_laws.proofs.visits.Above.{body_bounds, was_visited}
use Rattle.cv_query_laws.proofs.visits.OneBody.{one_body}
use Rattle.cv_query_secrets.proofs.copies.Values.{first_indices_values, first_value, second_indices_values, second_value}
use Rattle.cv_query_injections.proofs.places.Parted.{Parted, places_part}
use Rattle.cv_query_injections.proofs.matching.Ended.{EndsAt, above_indices, above_known, first_terms, map_twice, own_indices, second_terms, take_mapped}

-- the proof of a needed pair, and the end that it has

pub record Proved (s : Scene) (k : ℕ) (ds : List ℕ) (n : Needed) : Type 0 where
  pub by : Tree
  pub end : List Tree
  pub allowed : IsAmong end (ends_of_pair s k n.first n.second)
  pub derives : Derives (pair_at s n.first n.second k n.given ds) by (saying end)

any_end : (by : Tree) (es : List (List Tree)) → list_any (λ ts. ends_with by (saying ts)) es ≡ true → (ts : List Tree) × IsAmong ts es × (ends_with by (saying ts) ≡ true)
any_end by [] e = absurd (both_ways _ refl e)
any_end by (ts ∷ es) e = go (ends_with by (saying ts)) refl e (any_end by es)
  where
    go : (b : Bool) → ends_with by (saying ts) ≡ b → (b || list_any (λ ts. ends_with by (saying ts)) es) ≡ true → (list_any (λ ts. ends_with by (saying ts)) es ≡ true → (ts : List Tree) × IsAmong ts es × (ends_with by (saying ts) ≡ true))
        → (us : List Tree) × IsAmong us (ts ∷ es) × (ends_with by (saying us) ≡ true)
    go true f e ih = (ts, inl refl, f)
    go false f e ih = let r = ih e in (r.0, inr r.1, r.2)

proved : (s : Scene) (k : ℕ) (ds : List ℕ) (n : Needed) (by : Tree) → proves_pair s k ds n by ≡ true → Proved s k ds n
proved s k ds n by e =
    let p = and_parts (not (is_some (first_bad_line (pair_at s n.first n.second k n.given ds) by))) _ e in
    let r = any_end by (ends_of_pair s k n.first n.second) p.1 in
    record { by = by; end = r.0; allowed = r.1; derives = record { right = none_from_not_some _ p.0; end = r.2 } }

-- each needed pair has one
pub pair_proved : (s : Scene) (k : ℕ) (ds : List ℕ) (ns : List Needed) (parts : Tree) → ArePairs s k ds ns parts → (n : Needed) → IsAmong n ns → Proved s k ds n
pair_proved s k ds [] parts a n i = absurd i
pair_proved s k ds (m ∷ ns) Empty a n i = absurd a
pair_proved s k ds (m ∷ ns) (Node h part more) a n (inl e) = subst (Proved s k ds) (sym e) (go part a.0)
  where
    go : (part : Tree) → IsPair s k ds m part → Proved s k ds m
    go (Node Pair p (Node h q (Node g c by))) x = proved s k ds m (plain k by) x.1
    go part x = absurd x
pair_proved s k ds (m ∷ ns) (Node h part more) a n (inr i) = pair_proved s k ds ns more a.1 n i

-- equations, one by one

module _ (g : Setting) (at : Indices) (m : Store) where
  abbrev V : Tree → ℕ
  V t = value g at m t

  pub given_true : (xs ys : List Tree) → map (value g at m) xs ≡ map (value g at m) ys → AllByRecursion (λ t. value g at m t ≡ 1) (equations_between xs ys)
  unfolding value
  given_true [] ys e = tt
  given_true (x ∷ xs) [] e = tt
  given_true (x ∷ xs) (y ∷ ys) e =
      let one : V x ≡ V y = cc in
      let more : map V xs ≡ map V ys = cc in
      (ap bit (eq-eqb (V x) (V y) one), given_true xs ys more)

  same_bit : (x y : ℕ) → bit (x == y) ≡ 1 → x ≡ y
  same_bit x y e = go (x == y) refl e
    where
      go : (b : Bool) → (x == y) ≡ b → bit b ≡ 1 → x ≡ y
      go true f k = eqb-true x y f
      go false f k = absurd (omega arith)

  pub equations_true : (xs ys : List Tree) → length xs ≡ length ys → AllByRecursion (λ t. value g at m t ≡ 1) (equations_between xs ys) → map (value g at m) xs ≡ map (value g at m) ys
  unfolding value
  equations_true [] [] l h = refl
  equations_true [] (y ∷ ys) l h = absurd (omega (arith, l))
  equations_true (x ∷ xs) [] l h = absurd (omega (arith, l))
  equations_true (x ∷ xs) (y ∷ ys) l h = let long : length xs ≡ length ys = omega (arith, l) in ap₂ ◌∷◌ (same_bit (V x) (V y) h.0) (equations_true xs ys long h.1)

  pub said : (n : Store) (ts : List Tree) → AllByRecursion (IsTrue g at n m) (statements (lines_of (saying ts))) → AllByRecursion (λ t. value g at m t ≡ 1) ts
  unfolding lines_of statements
  said n [] h = tt
  said n (t ∷ ts) h = (h.0, said n ts h.1)

  chain_values : (ts : List Tree) → values g at m (chain ts) ≡ map (value g at m) ts
  unfolding values
  chain_values [] = refl
  chain_values (t ∷ ts) = ap (λ l. value g at m t ∷ l) (chain_values ts)

  pub no_false : value g at m no ≡ 1 → ⊥
  unfolding value
  no_false e = nought_one (value g at m no) refl e

-- values of terms of both copies
mapped : {A : Type 0} (P : A → Type 0) (f h : A → ℕ) (xs : List A) → ((x : A) → P x → f x ≡ h x) → AllByRecursion P xs → map f xs ≡ map h xs
mapped P f h [] e a = refl
mapped P f h (x ∷ xs) e a = ap₂ ◌∷◌ (e x a.0) (mapped P f h xs e a.1)

-- a node with bodies is visited where what lies in them is
has_bodies : (node : Tree) (n k q : ℕ) → LiesInBody node n k q → (h : Head) × (x : Tree) × (y : Tree) × (node ≡ Node h x y) × (weight h ≡ 1) × (head_is_visited h ≡ true)
has_bodies (Node If x y) n k q l = (If, x, y, refl, refl, refl)
has_bodies (Node (Find o) x y) n k q l = (Find o, x, y, refl, refl, refl)
has_bodies t n k q l = absurd l

module _ (s : Scene) (ready : IsReady s.declarations s.game) (i : Interpretation) (model : Satisfies s.declarations i) (names : (p : ℕ) (Γ : Context) → stands_at s.game p ≡ Some Γ → IsFine s.declarations s.game Γ) (behind : (y : ℕ) → AllByRecursion (IsBehind s.game) (sites_of s.game y)) (a : Adversary) (t : Tape)
    (reached : AreReachedInPairs s i (run (setting_of s.declarations i) Events a s.game t).memory (visits_of_run (setting_of s.declarations i) Events a s.game t))
    (hold : HoldInPairs s i (run (setting_of s.declarations i) Events a s.game t).memory (visits_of_run (setting_of s.declarations i) Events a s.game t))
    (number other_number : ℕ) (v w : Visit) (stands : StandsAt (visits_of_run (setting_of s.declarations i) Events a s.game t) number v) (other_stands : StandsAt (visits_of_run (setting_of s.declarations i) Events a s.game t) other_number w)
    (counts : IsSyntax v.tree) (other_counts : IsSyntax w.tree) (derives : HoldAtVisit s i v) (other_derives : HoldAtVisit s i w) (k : ℕ) (above : IsAbove s v.place k) where
  abbrev g : Setting
  g = setting_of s.declarations i

  abbrev at : Indices
  at = v.before.indices

  abbrev other : Indices
  other = w.before.indices

  abbrev both : Indices
  both = both_copies k at other

  abbrev x : Memory
  x = (run g Events a s.game t).memory

  copies : AreReached s i v.place w.place k at other x
  copies = reached number other_number v w stands other_stands counts other_counts k above

  -- the equations that are given
  given_hold : (e f : End) (u : List ℕ) → EndsAt s i v.place at x.store e u → EndsAt s i w.place other x.store f u
      → AreTrue g both x.store x.store (equations_between e.indices (map (of_second k (replications_at s w.place)) f.indices))
  given_hold e f u one two =
      given_true g both x.store e.indices (map (of_second k (replications_at s w.place)) f.indices)
      (mapped (IsFineTerm s.declarations s.game (replications_at s v.place)) (value g both x.store) (value g at x.store) e.indices (first_value s i ready model behind v.place w.place k at other x copies) one.are_fine
      ∙ one.are_values ∙ sym two.are_values
      ∙ sym (mapped (IsFineTerm s.declarations s.game (replications_at s w.place)) (λ t. value g both x.store (of_second k (replications_at s w.place) t)) (value g other x.store) f.indices (second_value s i ready model behind v.place w.place k at other x copies) two.are_fine)
      ∙ sym (map_twice (value g both x.store) (of_second k (replications_at s w.place)) f.indices))

  -- the values of the indices of both

  first_own : map (value g both x.store) (map index_term (replications_at s v.place)) ≡ tuple at
  first_own =
      sym (chain_values g both x.store (map index_term (replications_at s v.place)))
      ∙ first_indices_values s i ready model behind v.place w.place k at other x copies (found_all)
    where
      found_all : AllByRecursion (λ (c : ℕ × ℕ). found_in at c.0 ≡ Some c.1) at
      found_all = (holds_at s ready i a t number v stands).matches.found

  second_own : map (value g both x.store) (map index_term (second_indices k (replications_at s w.place))) ≡ tuple other
  second_own =
      sym (chain_values g both x.store (map index_term (second_indices k (replications_at s w.place))))
      ∙ second_indices_values s i ready model behind v.place w.place k at other x copies

  as_long : (rs : List (ℕ × ℕ)) → length (map index_term rs) ≡ length (map index_term (second_indices k rs))
  as_long rs = length-map rs index_term ∙ sym (length-map rs (second_index k)) ∙ sym (length-map (second_indices k rs) index_term)

  module _ (ends : List Tree) (true_ends : AllByRecursion (λ t. value g both x.store t ≡ 1) ends) where
    -- of one place
    one_copy : v.place ≡ w.place → ends ≡ same_indices k (replications_at s v.place) → tuple at ≡ tuple other
    one_copy same e =
        sym first_own
        ∙ equations_true g both x.store (map index_term (replications_at s v.place)) (map index_term (second_indices k (replications_at s v.place))) (as_long (replications_at s v.place)) (subst (AllByRecursion (λ t. value g both x.store t ≡ 1)) e true_ends)
        ∙ ap (λ p. map (value g both x.store) (map index_term (second_indices k (replications_at s p)))) same ∙ second_own

    no_end : ends ≡ no ∷ [] → ⊥
    no_end e = no_false g both x.store (subst (AllByRecursion (λ t. value g both x.store t ≡ 1)) e true_ends).0

    -- of two bodies of one construct

    fronts_same : (rs : List (ℕ × ℕ)) → map index_term rs ≡ take (length rs) (map index_term (replications_at s v.place)) → map index_term (second_indices k rs) ≡ take (length rs) (map index_term (second_indices k (replications_at s w.place)))
        → map (value g both x.store) (map index_term rs) ≡ map (value g both x.store) (map index_term (second_indices k rs)) → take (length rs) (tuple at) ≡ take (length rs) (tuple other)
    fronts_same rs first second equal =
        ap (take (length rs)) (sym first_own)
        ∙ (sym (take_mapped (value g both x.store) (length rs) (map index_term (replications_at s v.place)))
        ∙ (sym (ap (map (value g both x.store)) first)
        ∙ (equal
        ∙ (ap (map (value g both x.store)) second
        ∙ (take_mapped (value g both x.store) (length rs) (map index_term (second_indices k (replications_at s w.place)))
        ∙ ap (take (length rs)) second_own)))))

    one_construct : (n : ℕ) → Parted s.game n v.place w.place → ends ≡ same_indices k (replications_at s n) → ⊥
    one_construct n z e = go (has_bodies z.node n z.first v.place z.lies_first)
      where
        go : (h : Head) × (l : Tree) × (r : Tree) × (z.node ≡ Node h l r) × (weight h ≡ 1) × (head_is_visited h ≡ true) → ⊥
        go (h, l, r, same, one, visited) =
            let stand = z.stands ∙ ap Some same in
            let b = body_bounds z.node n z.first v.place z.lies_first in
            let c = body_bounds z.node n z.second w.place z.lies_second in
            let b0 : n < v.place = b.0 in
            let c0 : n < w.place = c.0 in
            let y = was_visited g Events a s.game t number v stands counts n h l r stand one visited (let d : n ≤ v.place = omega arith in d) (subst (λ t. v.place < n + size t) same b.1) in
            let o = was_visited g Events a s.game t other_number w other_stands other_counts n h l r stand one visited (let d : n ≤ w.place = omega arith in d) (subst (λ t. w.place < n + size t) same c.1) in
            let m = above_known s ready i names behind a t number v stands counts derives n (Node h l r) v.place at one y in
            let rs : replications_at s n ≡ m.0.replications = ap replications_by m.1 in
            let first = first_terms g y.visit.before.indices at y.front (replications_at s n) (replications_at s v.place) (above_indices s ready i names behind a t number v stands counts derives n (Node h l r) v.place at one y) (own_indices s ready i names behind a t number v stands counts derives) in
            let second = second_terms g o.visit.before.indices other o.front (replications_at s n) (replications_at s w.place) (above_indices s ready i names behind a t other_number w other_stands other_counts other_derives n (Node h l r) w.place other one o) (own_indices s ready i names behind a t other_number w other_stands other_counts other_derives) k in
            let equal = equations_true g both x.store (map index_term (replications_at s n)) (map index_term (second_indices k (replications_at s n))) (as_long (replications_at s n)) (subst (AllByRecursion (λ t. value g both x.store t ≡ 1)) e true_ends) in
            let fronts = fronts_same (replications_at s n) first second equal in
            z.apart
            (one_body s.declarations g Events a s.game t refl (game_context s.declarations s.game ready.formed) number other_number v w stands other_stands counts other_counts n z.node m.0 z.stands m.1
            (subst (λ (rs : List (ℕ × ℕ)). take (length rs) (tuple at) ≡ take (length rs) (tuple other)) rs fronts) z.first z.second z.lies_first z.lies_second)

  -- what an allowed end says
  module _ (f e : ℕ) (b c d r : Tree) (at_first : subtree s.game v.place ≡ Some (Node (Event f) b c)) (at_second : subtree s.game w.place ≡ Some (Node (Event e) d r)) where
    end_says : (ends : List Tree) → AllByRecursion (λ t. value g both x.store t ≡ 1) ends → v.place ≤ w.place → IsAmong ends (ends_of_pair s k v.place w.place) → (v.place ≡ w.place) × (tuple at ≡ tuple other)
    end_says ends h l i = go (v.place == w.place) refl i
      where
        parted : v.place < w.place → (o : Option ℕ) → parting None 0 s.game v.place w.place ≡ o → IsAmong ends (ends_of_parting s k o) → ⊥
        parted m None z (inl j) = no_end ends h j
        parted m None z (inr j) = j
        parted m (Some n) z (inl j) = one_construct ends h n (places_part s.game ready.formed.phrase v.place w.place f e b c d r at_first at_second m n z) j
        parted m (Some n) z (inr (inl j)) = no_end ends h j
        parted m (Some n) z (inr (inr j)) = j

        only : IsAmong ends (same_indices k (replications_at s v.place) ∷ []) → ends ≡ same_indices k (replications_at s v.place)
        only (inl j) = j
        only (inr j) = absurd j

        go : (u : Bool) → (v.place == w.place) ≡ u → IsAmong ends (cond u (same_indices k (replications_at s v.place) ∷ []) (ends_of_parting s k (parting None 0 s.game v.place w.place))) → (v.place ≡ w.place) × (tuple at ≡ tuple other)
        go true z j = let same = eqb-true v.place w.place z in (same, one_copy ends h same (only j))
        go false z j =
            let m : v.place < w.place = less z in
            absurd (parted m (parting None 0 s.game v.place w.place) refl j)
          where
            less : (v.place == w.place) ≡ false → v.place < w.place
            less z = omega (arith, apart z)
              where
                apart : (v.place == w.place) ≡ false → v.place ≢ w.place
                apart z same = both_ways _ z (eq-eqb v.place w.place same)

    -- so of a pair that is proved
    pub told : v.place ≤ w.place → (n : Needed) (ds : List ℕ) → Proved s k ds n → n.first ≡ v.place → n.second ≡ w.place → (one two : End) (u : List ℕ) → EndsAt s i v.place at x.store one u → EndsAt s i w.place other x.store two u
        → n.given ≡ equations_between one.indices (map (of_second k (replications_at s w.place)) two.indices) → AreApart ds x.store x.store → (v.place ≡ w.place) × (tuple at ≡ tuple other)
    told l n ds y first second one two u ends others given apart =
        let by = subst (λ (z : ℕ × ℕ × List Tree). Derives (pair_at s z.0 z.1 k z.2 ds) y.by (saying y.end)) (λ j. (first j, second j, given j)) y.derives in
        let allowed = subst (λ (z : ℕ × ℕ). IsAmong y.end (ends_of_pair s k z.0 z.1)) (λ j. (first j, second j)) y.allowed in
        end_says y.end
        (said g both x.store x.store y.end
        (hold number other_number v w stands other_stands counts other_counts k above (equations_between one.indices (map (of_second k (replications_at s w.place)) two.indices)) ds (given_hold one two u ends others) apart y.by (saying y.end) by))
        l allowed
