-- What stands above a node holds in later stores and below more replications.
use Rattle.std.proofs.Common.{◌≡◌, ℕ, ◌<◌, Bool, true, false, cond, ◌&&◌, ◌||◌, ◌==◌, List, [], ◌∷◌, ◌++◌, inl, inr, Some, None, is_some, refl, sym, ap, ap₂, subst, ◌∙◌, eq-eqb, eqb-true}
use Rattle.std.proofs.lemmas.Bool.{both_ways, and_parts, or_left, or_right}
use Rattle.std.specs.List.{AllByRecursion}
use Rattle.cv_syntax_trees.specs.declared.head.Head.TheVariants.{Leaf, Read, Apply, Eq, And, Or, Not, Yes, No, Cons, Binder}
use Rattle.cv_syntax_trees.specs.Tree.{Tree, Empty, Node}
use Rattle.cv_meaning.specs.Tapes.{same_tuple}
use Rattle.cv_meaning.specs.Interpretation.{Setting}
use Rattle.cv_meaning.specs.Memory.{Store, Indices, Happened, put, tuple}
use Rattle.cv_meaning.specs.Terms.{or_zero, found_in, leaf_value_from, leaf_value, value, values}
use Rattle.cv_meaning.specs.Binders.{bound_to}
use Rattle.cv_meaning.specs.Candidates.{is_assigned}
use Rattle.cv_meaning_laws.proofs.Counts.{same_tuple_refl, same_tuple_exact}
use Rattle.cv_scope_rules.specs.declared.position.Position.TheVariants.{Anywhere}
use Rattle.cv_scope_rules.specs.Context.{Context, index_terms, cell_of}
use Rattle.cv_scope_rules.specs.Rules.{Names, is_index, IsAmong, InReach, ReadsInReach}
use Rattle.cv_scope_rules.specs.Phrases.{Nil, Terms, Term, is_oracle_phrase}
use Rattle.cv_scope_runs.specs.Reads.{IsKept}
use Rattle.cv_scope_rules.specs.Made.{is_bound}
use Rattle.cv_scope_runs.specs.Promises.{IsRecorded, EventsKept, AreIndicesOf}
use Rattle.cv_scope_runs.proofs.Asked.{Asked, AreDistinct}
use Rattle.cv_scope_runs.proofs.TermsLater.{LeafReads, index, constant, cell, Readable, AllReadable, Extends, value_kept, values_kept, readable_kept, all_readable_kept, later_same}
use Rattle.cv_syntax_trees.proofs.lists.Each.{AllByRecursion_append, AllByRecursion_weaker}

-- events

pub recorded_push : (es : List Happened) (d : Happened) → EventsKept es (es ++ d ∷ [])
recorded_push [] d e h = absurd h
recorded_push (x ∷ es) d e (inl h) = inl h
recorded_push (x ∷ es) d e (inr h) = inr (recorded_push es d e h)

pub recorded_last : (es : List Happened) (d : Happened) → IsRecorded d (es ++ d ∷ [])
recorded_last [] d = inl refl
recorded_last (x ∷ es) d = inr (recorded_last es d)

-- indices

abbrev pub IsFound : Indices → ℕ × ℕ → Type 0
IsFound at p = found_in at p.0 ≡ Some p.1

pub record Matches (g : Setting) (variable : ℕ → Bool) (rs : List (ℕ × ℕ)) (at : Indices) : Type 0 where
  pub named : AreIndicesOf g at rs
  pub found : AllByRecursion (IsFound at) at
  pub apart : AllByRecursion (λ (p : ℕ × ℕ). (g.is_constant p.0 ≡ false) × (variable p.0 ≡ false)) at

-- an index that is bound below these replications
pub record NewIndex (constant variable : ℕ → Bool) (rs : List (ℕ × ℕ)) (i : ℕ) : Type 0 where
  pub not_above : is_index rs i ≡ false
  pub no_constant : constant i ≡ false
  pub no_variable : variable i ≡ false

index_found : (g : Setting) (at : Indices) (rs : List (ℕ × ℕ)) (x : ℕ) → AreIndicesOf g at rs → is_index rs x ≡ true → (v : ℕ) × (found_in at x ≡ Some v)
index_found g [] [] x n e = absurd (both_ways _ refl e)
index_found g [] (r ∷ rs) x n e = absurd n
index_found g (p ∷ ps) [] x n e = absurd n
index_found g (p ∷ ps) (r ∷ rs) x n e = go (p.0 == x) (ap (λ y. (y == x) || is_index rs x) n.0 ∙ e) (index_found g ps rs x n.2)
  where
    go : (b : Bool) → (b || is_index rs x) ≡ true → (is_index rs x ≡ true → (v : ℕ) × (found_in ps x ≡ Some v)) → (v : ℕ) × (cond b (Some p.1) (found_in ps x) ≡ Some v)
    go true k ih = (p.1, refl)
    go false k ih = ih k

pub index_none : (g : Setting) (at : Indices) (rs : List (ℕ × ℕ)) (x : ℕ) → AreIndicesOf g at rs → is_index rs x ≡ false → found_in at x ≡ None
index_none g [] [] x n e = refl
index_none g [] (r ∷ rs) x n e = absurd n
index_none g (p ∷ ps) [] x n e = absurd n
index_none g (p ∷ ps) (r ∷ rs) x n e = go (p.0 == x) (ap (λ y. (y == x) || is_index rs x) n.0 ∙ e) (index_none g ps rs x n.2)
  where
    go : (b : Bool) → (b || is_index rs x) ≡ false → (is_index rs x ≡ false → found_in ps x ≡ None) → cond b (Some p.1) (found_in ps x) ≡ None
    go true k ih = absurd (both_ways _ k refl)
    go false k ih = ih k

pub apart_none : (bad : ℕ → Bool) (at : Indices) (x : ℕ) → AllByRecursion (λ (p : ℕ × ℕ). bad p.0 ≡ false) at → bad x ≡ true → found_in at x ≡ None
apart_none bad [] x h e = refl
apart_none bad (p ∷ ps) x h e = go (p.0 == x) refl (apart_none bad ps x h.1 e)
  where
    go : (b : Bool) → (p.0 == x) ≡ b → found_in ps x ≡ None → cond b (Some p.1) (found_in ps x) ≡ None
    go true k ih = absurd (both_ways (bad x) (ap bad (sym (eqb-true p.0 x k)) ∙ h.0) e)
    go false k ih = ih

module _ (g : Setting) (variable : ℕ → Bool) where
  pub constant_none : (rs : List (ℕ × ℕ)) (at : Indices) → Matches g variable rs at → (x : ℕ) → g.is_constant x ≡ true → found_in at x ≡ None
  constant_none rs at h x e = apart_none g.is_constant at x (AllByRecursion_weaker _ (λ (p : ℕ × ℕ). g.is_constant p.0 ≡ false) (λ p z. z.0) at h.apart) e

  pub variable_none : (rs : List (ℕ × ℕ)) (at : Indices) → Matches g variable rs at → (x : ℕ) → variable x ≡ true → found_in at x ≡ None
  variable_none rs at h x e = apart_none variable at x (AllByRecursion_weaker _ (λ (p : ℕ × ℕ). variable p.0 ≡ false) (λ p z. z.1) at h.apart) e

  -- the index terms have the copy's tuple
  terms_values : (at : Indices) (m : Store) (ps rs : List (ℕ × ℕ)) → AreIndicesOf g ps rs → AllByRecursion (IsFound at) ps → values g at m (index_terms rs) ≡ tuple ps
  unfolding value
  terms_values at m [] [] n f = refl
  terms_values at m [] (r ∷ rs) n f = absurd n
  terms_values at m (p ∷ ps) [] n f = absurd n
  terms_values at m (p ∷ ps) (r ∷ rs) n f = ap₂ ◌∷◌ (ap (leaf_value g at m) (sym n.0) ∙ ap (leaf_value_from g m p.0) f.0) (terms_values at m ps rs n.2 f.1)

  terms_readable : (at : Indices) (m : Store) (ps rs : List (ℕ × ℕ)) → AreIndicesOf g ps rs → AllByRecursion (IsFound at) ps → AllReadable g variable at m (index_terms rs)
  terms_readable at m [] [] n f = tt
  terms_readable at m [] (r ∷ rs) n f = absurd n
  terms_readable at m (p ∷ ps) [] n f = absurd n
  terms_readable at m (p ∷ ps) (r ∷ rs) n f = (subst (LeafReads g variable at m) n.0 (index p.1 f.0), terms_readable at m ps rs n.2 f.1)

  -- cells

  pub record CellHolds (at : Indices) (m : Store) (c : Tree) : Type 0 where
    pub readable : Readable g variable at m c
    pub assigned : is_assigned g at m m c ≡ true

  pub cell_kept : (at : Indices) (m : Store) (at' : Indices) (n : Store) → Extends g variable at m at' n → (c : Tree) → CellHolds at m c → CellHolds at' n c
  cell_kept at m at' n e c h = record { readable = readable_kept g variable at m at' n e c h.readable; assigned = go c h.readable h.assigned }
    where
      go : (c : Tree) → Readable g variable at m c → is_assigned g at m m c ≡ true → is_assigned g at' n n c ≡ true
      go (Node (Leaf x) a b) r k = ap is_some (later_same m n e.store x [] k) ∙ k
      go (Node (Read x) a b) r k = (readable_kept g variable at m at' n e (Node (Read x) a b) r).0
      go (Node Eq a b) r k = absurd (both_ways _ refl k)
      go (Node h a b) r k = absurd (both_ways _ refl k)
      go Empty r k = absurd (both_ways _ refl k)

  -- no constant is a variable
  abbrev pub NamesApart : Type 0
  NamesApart = (x : ℕ) → g.is_constant x ≡ true → variable x ≡ false

  pub not_constant : NamesApart → (x : ℕ) → variable x ≡ true → g.is_constant x ≡ false
  not_constant apart x e = go (g.is_constant x) refl
    where
      go : (b : Bool) → g.is_constant x ≡ b → g.is_constant x ≡ false
      go true k = absurd (both_ways _ (apart x k) e)
      go false k = k

  -- a variable's cell at the current indices
  pub own_holds : NamesApart → (rs : List (ℕ × ℕ)) (at : Indices) (m : Store) → Matches g variable rs at → (x : ℕ) → variable x ≡ true → is_some (m x (tuple at)) ≡ true → CellHolds at m (cell_of rs x)
  own_holds apart [] [] m h x v e = record { readable = cell refl (not_constant apart x v) v e; assigned = e }
  own_holds apart [] (p ∷ ps) m h x v e = absurd h.named
  own_holds apart (r ∷ rs) at m h x v e =
      let k : is_some (m x (values g at m (index_terms (r ∷ rs)))) ≡ true = ap (λ u. is_some (m x u)) (terms_values at m at (r ∷ rs) h.named h.found) ∙ e in
      record { readable = (k, terms_readable at m at (r ∷ rs) h.named h.found); assigned = k }

  pub own_value : NamesApart → (rs : List (ℕ × ℕ)) (at : Indices) (m : Store) → Matches g variable rs at → (x : ℕ) → variable x ≡ true → value g at m (cell_of rs x) ≡ or_zero (m x (tuple at))
  unfolding value
  own_value apart [] [] m h x v = ap (λ b. cond b (g.interpretation.table x []) (or_zero (m x []))) (not_constant apart x v)
  own_value apart [] (p ∷ ps) m h x v = absurd h.named
  own_value apart (r ∷ rs) at m h x v = ap (λ u. or_zero (m x u)) (terms_values at m at (r ∷ rs) h.named h.found)

  -- contexts

  pub record FactHolds (at : Indices) (m : Store) (f : Tree) : Type 0 where
    pub readable : Readable g variable at m f
    pub true : value g at m f ≡ 1

  pub record EventHolds (at : Indices) (m : Store) (es : List Happened) (e : ℕ × Tree) : Type 0 where
    pub readable : AllReadable g variable at m e.1
    pub recorded : IsRecorded (record { event = e.0; values = values g at m e.1 }) es

  pub record Holds (Γ : Context) (at : Indices) (m : Store) (es : List Happened) : Type 0 where
    pub cells : AllByRecursion (CellHolds at m) Γ.cells
    pub own : AllByRecursion (CellHolds at m) Γ.own
    pub facts : AllByRecursion (FactHolds at m) Γ.facts
    pub events : AllByRecursion (EventHolds at m es) Γ.events

  pub fact_kept : (at : Indices) (m : Store) (at' : Indices) (n : Store) → Extends g variable at m at' n → (f : Tree) → FactHolds at m f → FactHolds at' n f
  fact_kept at m at' n e f h = record { readable = readable_kept g variable at m at' n e f h.readable; true = value_kept g variable at m at' n e f h.readable ∙ h.true }

  pub event_kept : (at : Indices) (m : Store) (at' : Indices) (n : Store) (es fs : List Happened) → Extends g variable at m at' n → EventsKept es fs → (d : ℕ × Tree) → EventHolds at m es d → EventHolds at' n fs d
  event_kept at m at' n es fs e l d h = record {
    readable = all_readable_kept g variable at m at' n e d.1 h.readable;
    recorded = subst (λ vs. IsRecorded (record { event = d.0; values = vs }) fs) (sym (values_kept g variable at m at' n e d.1 h.readable)) (l _ h.recorded);
  }

  pub holds_kept : (Γ : Context) (at : Indices) (m : Store) (at' : Indices) (n : Store) (es fs : List Happened) → Extends g variable at m at' n → EventsKept es fs → Holds Γ at m es → Holds Γ at' n fs
  holds_kept Γ at m at' n es fs e l h = record {
    cells = AllByRecursion_weaker (CellHolds at m) (CellHolds at' n) (cell_kept at m at' n e) Γ.cells h.cells;
    own = AllByRecursion_weaker (CellHolds at m) (CellHolds at' n) (cell_kept at m at' n e) Γ.own h.own;
    facts = AllByRecursion_weaker (FactHolds at m) (FactHolds at' n) (fact_kept at m at' n e) Γ.facts h.facts;
    events = AllByRecursion_weaker (EventHolds at m es) (EventHolds at' n fs) (event_kept at m at' n es fs e l) Γ.events h.events;
  }

  -- scope

  among_holds : (P : Tree → Type 0) (t : Tree) (cs : List Tree) → IsAmong t cs → AllByRecursion P cs → P t
  among_holds P t [] l h = absurd l
  among_holds P t (c ∷ cs) (inl e) h = subst P (sym e) h.0
  among_holds P t (c ∷ cs) (inr l) h = among_holds P t cs l h.1

  reach_holds : (Γ : Context) (at : Indices) (m : Store) (es : List Happened) → Holds Γ at m es → (t : Tree) → InReach Γ t → CellHolds at m t
  reach_holds Γ at m es h t (inl l) = among_holds (CellHolds at m) t Γ.cells l h.cells
  reach_holds Γ at m es h t (inr l) = among_holds (CellHolds at m) t Γ.own l h.own

  abbrev pub game_names : Names
  game_names = record { constant = g.is_constant; variable = variable }

  leaf_readable : (Γ : Context) (at : Indices) (m : Store) (es : List Happened) → Matches g variable Γ.replications at → Holds Γ at m es → (x : ℕ) (a b : Tree) → ReadsInReach game_names Γ (Leaf x) a b → LeafReads g variable at m x
  leaf_readable Γ at m es k h x a b (inl e) = let r = index_found g at Γ.replications x k.named e in index r.0 r.1
  leaf_readable Γ at m es k h x a b (inr (inl e)) = constant (constant_none Γ.replications at k x e) e
  leaf_readable Γ at m es k h x a b (inr (inr e)) = (reach_holds Γ at m es h (Node (Leaf x) a b) e).readable

  nil_readable : (at : Indices) (m : Store) (t : Tree) → is_oracle_phrase Nil t ≡ true → Readable g variable at m t
  unfolding is_oracle_phrase
  nil_readable at m Empty f = tt
  nil_readable at m (Node h a b) f = absurd (both_ways _ refl f)

  mutual
    unfolding is_oracle_phrase

    pub scope_readable : (Γ : Context) (at : Indices) (m : Store) (es : List Happened) → Matches g variable Γ.replications at → Holds Γ at m es → (t : Tree) → is_oracle_phrase Term t ≡ true → Asked game_names Anywhere Γ t → Readable g variable at m t
    scope_readable Γ at m es k h Empty f s = tt
    scope_readable Γ at m es k h (Node (Leaf x) a b) f s = leaf_readable Γ at m es k h x a b s.0.scope
    scope_readable Γ at m es k h (Node (Read x) a b) f s = (reach_holds Γ at m es h (Node (Read x) a b) s.0.scope).readable
    scope_readable Γ at m es k h (Node (Apply q) a b) f s = all_scope_readable Γ at m es k h a (and_parts (is_oracle_phrase Terms a) _ f).0 s.1
    scope_readable Γ at m es k h (Node Eq a b) f s = let r = and_parts (is_oracle_phrase Term a) _ f in (scope_readable Γ at m es k h a r.0 s.1, scope_readable Γ at m es k h b r.1 s.2)
    scope_readable Γ at m es k h (Node And a b) f s = let r = and_parts (is_oracle_phrase Term a) _ f in (scope_readable Γ at m es k h a r.0 s.1, scope_readable Γ at m es k h b r.1 s.2)
    scope_readable Γ at m es k h (Node Or a b) f s = let r = and_parts (is_oracle_phrase Term a) _ f in (scope_readable Γ at m es k h a r.0 s.1, scope_readable Γ at m es k h b r.1 s.2)
    scope_readable Γ at m es k h (Node Not a b) f s = let r = and_parts (is_oracle_phrase Term a) _ f in (scope_readable Γ at m es k h a r.0 s.1, nil_readable at m b r.1)
    scope_readable Γ at m es k h (Node Yes a b) f s = let r = and_parts (is_oracle_phrase Nil a) _ f in (nil_readable at m a r.0, nil_readable at m b r.1)
    scope_readable Γ at m es k h (Node No a b) f s = let r = and_parts (is_oracle_phrase Nil a) _ f in (nil_readable at m a r.0, nil_readable at m b r.1)
    scope_readable Γ at m es k h (Node i a b) f s = absurd (both_ways _ refl f)

    pub all_scope_readable : (Γ : Context) (at : Indices) (m : Store) (es : List Happened) → Matches g variable Γ.replications at → Holds Γ at m es → (t : Tree) → is_oracle_phrase Terms t ≡ true → Asked game_names Anywhere Γ t → AllReadable g variable at m t
    all_scope_readable Γ at m es k h Empty f s = tt
    all_scope_readable Γ at m es k h (Node Cons a b) f s = let r = and_parts (is_oracle_phrase Term a) _ f in (scope_readable Γ at m es k h a r.0 s.1, all_scope_readable Γ at m es k h b r.1 s.2)
    all_scope_readable Γ at m es k h (Node i a b) f s = absurd (both_ways _ refl f)

  -- replications

  found_push : (at : Indices) (i v x w : ℕ) → found_in at x ≡ Some w → found_in (at ++ (i, v) ∷ []) x ≡ Some w
  found_push [] i v x w e = cc
  found_push (p ∷ at) i v x w e = go (p.0 == x) (found_push at i v x w) e
    where
      go : (b : Bool) → (found_in at x ≡ Some w → found_in (at ++ (i, v) ∷ []) x ≡ Some w) → cond b (Some p.1) (found_in at x) ≡ Some w → cond b (Some p.1) (found_in (at ++ (i, v) ∷ []) x) ≡ Some w
      go true ih k = k
      go false ih k = ih k

  none_push : (at : Indices) (i v x : ℕ) → found_in at x ≡ None → found_in (at ++ (i, v) ∷ []) x ≡ cond (i == x) (Some v) None
  none_push [] i v x e = refl
  none_push (p ∷ at) i v x e = go (p.0 == x) (none_push at i v x) e
    where
      go : (b : Bool) → (found_in at x ≡ None → found_in (at ++ (i, v) ∷ []) x ≡ cond (i == x) (Some v) None) → cond b (Some p.1) (found_in at x) ≡ None → cond b (Some p.1) (found_in (at ++ (i, v) ∷ []) x) ≡ cond (i == x) (Some v) None
      go true ih k = cc
      go false ih k = ih k

  differs : (bad : ℕ → Bool) (i x : ℕ) → bad i ≡ false → bad x ≡ true → (i == x) ≡ false
  differs bad i x e f = go (i == x) refl
    where
      go : (b : Bool) → (i == x) ≡ b → (i == x) ≡ false
      go true k = absurd (both_ways (bad x) (ap bad (sym (eqb-true i x k)) ∙ e) f)
      go false k = k

  pub push_extends : (Γ : Context) (at : Indices) (m : Store) (i v : ℕ) → NewIndex g.is_constant variable Γ.replications i → Extends g variable at m (at ++ (i, v) ∷ []) m
  push_extends Γ at m i v new = record {
    found = λ x w e. found_push at i v x w e;
    constants = λ x c e. none_push at i v x e ∙ ap (λ b. cond b (Some v) None) (differs g.is_constant i x new.no_constant c);
    variables = λ x c e. none_push at i v x e ∙ ap (λ b. cond b (Some v) None) (differs variable i x new.no_variable c);
    store = λ x u w e. e;
  }

  named_push : (at : Indices) (rs : List (ℕ × ℕ)) (i n v : ℕ) → v < g.interpretation.parameter_value n → AreIndicesOf g at rs → AreIndicesOf g (at ++ (i, v) ∷ []) (rs ++ (i, n) ∷ [])
  named_push [] [] i n v l h = (refl, l, tt)
  named_push [] (r ∷ rs) i n v l h = absurd h
  named_push (p ∷ at) [] i n v l h = absurd h
  named_push (p ∷ at) (r ∷ rs) i n v l h = (h.0, h.1, named_push at rs i n v l h.2)

  pub push_matches : (Γ : Context) (at : Indices) (i n v : ℕ) → NewIndex g.is_constant variable Γ.replications i → v < g.interpretation.parameter_value n → Matches g variable Γ.replications at → Matches g variable (Γ.replications ++ (i, n) ∷ []) (at ++ (i, v) ∷ [])
  push_matches Γ at i n v new l h = record {
    named = named_push at Γ.replications i n v l h.named;
    found = AllByRecursion_append (IsFound (at ++ (i, v) ∷ [])) at ((i, v) ∷ []) (AllByRecursion_weaker (IsFound at) (IsFound (at ++ (i, v) ∷ [])) (λ p e. found_push at i v p.0 p.1 e) at h.found)
        (none_push at i v i (index_none g at Γ.replications i h.named new.not_above) ∙ ap (λ b. cond b (Some v) None) (eq-eqb i i refl), tt);
    apart = AllByRecursion_append (λ (p : ℕ × ℕ). (g.is_constant p.0 ≡ false) × (variable p.0 ≡ false)) at ((i, v) ∷ []) h.apart ((new.no_constant, new.no_variable), tt);
  }

-- stores

pub put_here : (m : Store) (x : ℕ) (u : List ℕ) (v : ℕ) → put m x u v x u ≡ Some v
unfolding put
put_here m x u v = ap₂ (λ b c. cond (b && c) (Some v) (m x u)) (eq-eqb x x refl) (same_tuple_refl u)

pub put_other : (m : Store) (x : ℕ) (u : List ℕ) (v y : ℕ) (w : List ℕ) → ((y == x) ≡ true → w ≡ u → ⊥) → put m x u v y w ≡ m y w
unfolding put
put_other m x u v y w h = go (y == x) (same_tuple w u) refl refl
  where
    go : (b c : Bool) → (y == x) ≡ b → same_tuple w u ≡ c → cond (b && c) (Some v) (m y w) ≡ m y w
    go true true i j = absurd (h i (same_tuple_exact w u j))
    go true false i j = refl
    go false c i j = refl

pub put_later : (m : Store) (x : ℕ) (u : List ℕ) (v : ℕ) → m x u ≡ None → IsKept m (put m x u v)
put_later m x u v f y w z e =
    put_other m x u v y w (λ i j. clash (sym e ∙ (λ k. m (eqb-true y x i k) (j k)) ∙ f)) ∙ e
  where
    clash : Some z ≡ None → ⊥
    clash k = cc

pub bound_later : (m : Store) (u : List ℕ) (bs : Tree) (vs : List ℕ) → AreDistinct bs → ((y : ℕ) → is_bound bs y ≡ true → m y u ≡ None) → IsKept m (bound_to m u bs vs)
unfolding bound_to is_bound
bound_later m u (Node (Binder x T) a b) (v ∷ vs) d f y w z e =
    bound_later (put m x u v) u b vs d.1
    (λ n k. put_other m x u v n u (λ i j. both_ways (is_bound b n) (ap (is_bound b) (eqb-true n x i) ∙ d.0) k) ∙ f n (or_right (n == x) _ k)) y w z
    (put_later m x u v (f x (or_left (x == x) _ (eq-eqb x x refl))) y w z e)
bound_later m u _ _ d f y w z e = e
