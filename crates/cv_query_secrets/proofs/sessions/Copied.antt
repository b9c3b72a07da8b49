-- What the visit of a copy reads: terms over names that may stand there, whose values stay as they are to the end.
use Rattle.std.proofs.Common.{◌≡◌, ℕ, Bool, true, false, ◌&&◌, List, [], ◌∷◌, ◌++◌, ◌⊎◌, inl, inr, Option, Some, None, refl, sym, ap, subst, ◌∙◌}
use Rattle.std.proofs.lemmas.Bool.{and_parts, both_ways}
use Rattle.std.specs.List.{AllByRecursion}
use Rattle.cv_syntax_trees.proofs.lists.Options.{none_some}
use Rattle.cv_syntax_trees.specs.declared.head.Head.TheVariants.{Apply, And, Cons, Eq, Leaf, Let, No, Not, Or, Read, Yes}
use Rattle.cv_syntax_trees.specs.Declarations.{Declaration}
use Rattle.cv_syntax_trees.specs.Tree.{Tree, Empty, Node, first_place, second_place}
use Rattle.cv_meaning.specs.Interpretation.{Interpretation, Setting, setting_of}
use Rattle.cv_meaning.specs.Memory.{Indices, Store}
use Rattle.cv_meaning.specs.Serving.{Visit}
use Rattle.cv_meaning.specs.Terms.{found_in, value}
use Rattle.cv_meaning_laws.proofs.Listed.{Has, has_left, has_right}
use Rattle.cv_scope_rules.specs.Branches.{AreSitesAlike, IsLike, Pairs}
use Rattle.cv_scope_rules.specs.Context.{Context, items, known_at, replications_below}
use Rattle.cv_scope_rules.specs.Phrases.{Body, Nil, Phrase, Term, Terms, both_are, is_oracle_phrase, oracle_parts}
use Rattle.cv_scope_rules.specs.Rules.{is_index}
use Rattle.cv_scope_rules.specs.Scope.{is_variable}
use Rattle.cv_scope_rules.specs.Sites.{Site, Variable, site_of, sites_from, sites_here}
use Rattle.cv_scope_rules.proofs.Apart.{first_replications, game_alike, second_replications}
use Rattle.cv_scope_runs.specs.Promises.{AreIndicesOf}
use Rattle.cv_scope_runs.specs.Reads.{IsKept}
use Rattle.cv_scope_runs.proofs.Contexts.{index_none}
use Rattle.cv_scope_runs.proofs.FactsRuns.{well_game}
use Rattle.cv_scope_runs.proofs.Games.{Game, has_parts, stands_phrase}
use Rattle.cv_scope_runs.proofs.PathRuns.{term_reads}
use Rattle.cv_scope_runs.proofs.Plain.{game_context}
use Rattle.cv_scope_runs.proofs.Rows.{position_of}
use Rattle.cv_scope_runs.proofs.ServeRuns.{VisitHolds}
use Rattle.cv_scope_runs.proofs.Standing.{Stands, in_first, in_second, root, stands_known}
use Rattle.cv_scope_runs.proofs.TermsLater.{AllReadable, LeafReads, Readable, cell, constant, index, store_extends, value_kept}
use Rattle.cv_scene.specs.Scenes.{Scene}
use Rattle.cv_scene.specs.Terms.{replications_at, replications_by}
use Rattle.cv_derive_laws.specs.reached.Fine.{IsFineTerm, IsNamed}
use Rattle.cv_derive_laws.specs.stores.Holding.{IsReady}
use Rattle.cv_derive_laws.specs.stores.Truth.{AreOver}
use Rattle.cv_query_secrets.proofs.sessions.Needed.{index_list}

-- what is read at a place is over its names

module _ (s : Scene) (i : Interpretation) (rs : List (ℕ × ℕ)) (at : Indices) (m : Store) (named : AreIndicesOf (setting_of s.declarations i) at rs) where
  abbrev g : Setting
  g = setting_of s.declarations i

  abbrev variable : ℕ → Bool
  variable = is_variable s.game

  found_index : (x v : ℕ) → found_in at x ≡ Some v → is_index rs x ≡ true
  found_index x v e = go (is_index rs x) refl
    where
      go : (b : Bool) → is_index rs x ≡ b → b ≡ true
      go true k = refl
      go false k = absurd (none_some v (sym (index_none g at rs x named k) ∙ e))

  leaf_named : (x : ℕ) → LeafReads g variable at m x → IsNamed s.declarations s.game rs x
  leaf_named x (index v e) = inl (found_index x v e)
  leaf_named x (constant e k) = inr (inl k)
  leaf_named x (cell e k v h) = inr (inr v)

  mutual
    unfolding is_oracle_phrase

    term_fine : (t : Tree) → is_oracle_phrase Term t ≡ true → Readable g variable at m t → IsFineTerm s.declarations s.game rs t
    term_fine Empty e r = absurd (both_ways false refl e)
    term_fine (Node (Leaf x) a b) e r = leaf_named x r
    term_fine (Node (Read x) a b) e r = (tt, terms_fine a (and_parts (is_oracle_phrase Terms a) (is_oracle_phrase Nil b) e).0 r.1)
    term_fine (Node (Apply f) a b) e r = terms_fine a (and_parts (is_oracle_phrase Terms a) (is_oracle_phrase Nil b) e).0 r
    term_fine (Node Eq a b) e r = let p = and_parts (is_oracle_phrase Term a) (is_oracle_phrase Term b) e in (term_fine a p.0 r.0, term_fine b p.1 r.1)
    term_fine (Node And a b) e r = let p = and_parts (is_oracle_phrase Term a) (is_oracle_phrase Term b) e in (term_fine a p.0 r.0, term_fine b p.1 r.1)
    term_fine (Node Or a b) e r = let p = and_parts (is_oracle_phrase Term a) (is_oracle_phrase Term b) e in (term_fine a p.0 r.0, term_fine b p.1 r.1)
    term_fine (Node Not a b) e r = term_fine a (and_parts (is_oracle_phrase Term a) (is_oracle_phrase Nil b) e).0 r.0
    term_fine (Node Yes a b) e r = tt
    term_fine (Node No a b) e r = tt
    term_fine (Node h a b) e r = absurd (both_ways false refl e)

    terms_fine : (t : Tree) → is_oracle_phrase Terms t ≡ true → AllReadable g variable at m t → AreOver (IsNamed s.declarations s.game rs) (Unit {0}) t
    terms_fine Empty e r = tt
    terms_fine (Node Cons a b) e r = let p = and_parts (is_oracle_phrase Term a) (is_oracle_phrase Terms b) e in (term_fine a p.0 r.0, terms_fine b p.1 r.1)
    terms_fine (Node h a b) e r = absurd (both_ways false refl e)

  -- each has its value in a later store
  abbrev pub IsSettled : Store → Tree → Type 0
  IsSettled n t = IsFineTerm s.declarations s.game rs t × (value g at n t ≡ value g at m t)

  settled : (n : Store) → IsKept m n → (t : Tree) → is_oracle_phrase Terms t ≡ true → AllReadable g variable at m t → AllByRecursion (IsSettled n) (items t)
  unfolding is_oracle_phrase
  settled n k Empty e r = tt
  settled n k (Node Cons a b) e r =
      let p = and_parts (is_oracle_phrase Term a) (is_oracle_phrase Terms b) e in
      ((term_fine a p.0 r.0, value_kept g variable at m at n (store_extends g variable at m n k) a r.0), settled n k b p.1 r.1)
  settled n k (Node h a b) e r = absurd (both_ways false refl e)

  list_phrase : (t : Tree) → is_oracle_phrase Term t ≡ true → is_oracle_phrase Terms (index_list t) ≡ true
  unfolding is_oracle_phrase
  list_phrase (Node (Read y) a b) e = (and_parts (is_oracle_phrase Terms a) (is_oracle_phrase Nil b) e).0
  list_phrase t e = refl

  list_readable : (t : Tree) → Readable g variable at m t → AllReadable g variable at m (index_list t)
  list_readable (Node (Read y) a b) r = r.1
  list_readable t r = tt

  -- the indices of a copy
  pub indices_settled : (n : Store) → IsKept m n → (t : Tree) → is_oracle_phrase Term t ≡ true → Readable g variable at m t → AllByRecursion (IsSettled n) (items (index_list t))
  indices_settled n k t e r = settled n k (index_list t) (list_phrase t e) (list_readable t r)

-- a copy stands as a body, with its term in it

let_body : (σ : Phrase) (x T : ℕ) (q : Phrase × Phrase) → oracle_parts σ (Let x T) ≡ Some q → σ ≡ Body
let_body Body x T q e = refl
let_body σ x T q e = absurd (none_some q e)

-- sites where a node stands

stands_sited : (game : Tree) {p : ℕ} {σ : Phrase} {Γ : Context} {b : Tree} → Stands game p σ Γ b → (e : Site) → Has (sites_from Γ.replications p b) e → Has (sites_from [] 0 game) e
unfolding sites_from
stands_sited game root e h = h
stands_sited game (in_first {p = p} {σ = σ} {Γ = Γ} {h = k} {a = a} {b = b} i st) e h =
    let below = sites_from Γ.replications (first_place p k) a in
    let behind = sites_from (replications_below k Γ.replications) (second_place p k a) b in
    stands_sited game st e
    (has_right (sites_here Γ.replications p k a) (below ++ behind) e (has_left below behind e (subst (λ rs. Has (sites_from rs (first_place p k) a) e) (first_replications (position_of σ) k Γ) h)))
stands_sited game (in_second {p = p} {σ = σ} {Γ = Γ} {h = k} {a = a} {b = b} i st) e h =
    let below = sites_from Γ.replications (first_place p k) a in
    let behind = sites_from (replications_below k Γ.replications) (second_place p k a) b in
    stands_sited game st e
    (has_right (sites_here Γ.replications p k a) (below ++ behind) e (has_right below behind e (subst (λ rs. Has (sites_from rs (second_place p k a) b) e) (second_replications (position_of σ) k a Γ) h)))

let_sited : (rs : List (ℕ × ℕ)) (p x T : ℕ) (a b : Tree) → Has (sites_from rs p (Node (Let x T) a b)) (site_of rs p (Variable x))
unfolding sites_from
let_sited rs p x T a b = inl refl

each_has : {A : Type 0} (P : A → Type 0) (xs : List A) (a : A) → AllByRecursion P xs → Has xs a → P a
each_has P [] a h k = absurd k
each_has P (x ∷ xs) a h (inl e) = subst P (sym e) h.0
each_has P (x ∷ xs) a h (inr k) = each_has P xs a h.1 k

two_alike : (xs : List Site) (e f : Site) → Pairs IsLike xs → Has xs e → Has xs f → e.name ≡ f.name → e.replications ≡ f.replications
two_alike [] e f h k l n = absurd k
two_alike (x ∷ xs) e f h (inl k) (inl l) n = ap (λ (z : Site). z.replications) (k ∙ sym l)
two_alike (x ∷ xs) e f h (inl k) (inr l) n = (each_has (IsLike e) xs f (subst (λ (z : Site). AllByRecursion (IsLike z) xs) (sym k) h.0) l n).0
two_alike (x ∷ xs) e f h (inr k) (inl l) n = sym (each_has (IsLike f) xs e (subst (λ (z : Site). AllByRecursion (IsLike z) xs) (sym l) h.0) k (sym n)).0
two_alike (x ∷ xs) e f h (inr k) (inr l) n = two_alike xs e f h.1 k l n

module _ (s : Scene) (ready : IsReady s.declarations s.game) (i : Interpretation) where
  abbrev setting : Setting
  setting = setting_of s.declarations i

  abbrev pub fine : Game setting (is_variable s.game) s.game
  fine = well_game s.declarations setting s.game refl (game_context s.declarations s.game ready.formed)

  -- a visited copy, where it stands
  pub record IsCopyAt (v : Visit) (x T : ℕ) (term next : Tree) : Type 0 where
    pub above : Context
    pub stands : Stands s.game v.place Body above (Node (Let x T) term next)
    pub known : replications_at s v.place ≡ above.replications
    pub named : AreIndicesOf setting v.before.indices above.replications
    pub phrase : is_oracle_phrase Term term ≡ true
    pub reads : Readable setting (is_variable s.game) v.before.indices v.before.memory.store term

  pub copy_stands : (v : Visit) (x T : ℕ) (term next : Tree) → v.tree ≡ Node (Let x T) term next → VisitHolds setting (is_variable s.game) s.game fine v → IsCopyAt v x T term next
  copy_stands v x T term next same h =
      let st : Stands s.game v.place h.phrase h.above (Node (Let x T) term next) = subst (Stands s.game v.place h.phrase h.above) same h.stands in
      let q = has_parts h.phrase (Let x T) term next (stands_phrase setting (is_variable s.game) s.game fine st) in
      let body : Stands s.game v.place Body h.above (Node (Let x T) term next) = subst (λ σ. Stands s.game v.place σ h.above (Node (Let x T) term next)) (let_body h.phrase x T q.0 q.1) st in
      let inside : Stands s.game (first_place v.place (Let x T)) Term h.above term = in_first refl body in
      record {
        above = h.above;
        stands = body;
        known = ap replications_by (stands_known s.game v.place Body h.above (Node (Let x T) term next) refl body);
        named = h.matches.named;
        phrase = stands_phrase setting (is_variable s.game) s.game fine inside;
        reads = term_reads setting (is_variable s.game) s.game fine inside v.before.indices v.before.memory.store v.before.memory.events h.matches h.holds;
      }

  -- two copies of one variable stand below the same replications
  pub one_shape : (v w : Visit) (x T U : ℕ) (a b c d : Tree) → IsCopyAt v x T a b → IsCopyAt w x U c d → replications_at s v.place ≡ replications_at s w.place
  one_shape v w x T U a b c d k l =
      k.known
      ∙ two_alike (sites_from [] 0 s.game) (site_of k.above.replications v.place (Variable x)) (site_of l.above.replications w.place (Variable x)) (game_alike s.declarations s.game ready.formed.scoped)
      (stands_sited s.game k.stands (site_of k.above.replications v.place (Variable x)) (let_sited k.above.replications v.place x T a b))
      (stands_sited s.game l.stands (site_of l.above.replications w.place (Variable x)) (let_sited l.above.replications w.place x U c d)) refl
      ∙ sym l.known

  -- the indices of a visited copy's draw have their values to the end
  pub copy_settled : (v : Visit) (x T : ℕ) (term next : Tree) → IsCopyAt v x T term next → (n : Store) → IsKept v.before.memory.store n
      → AllByRecursion (λ t. IsFineTerm s.declarations s.game (replications_at s v.place) t × (value setting v.before.indices n t ≡ value setting v.before.indices v.before.memory.store t)) (items (index_list term))
  copy_settled v x T term next k n kept =
      subst (λ rs. AllByRecursion (λ t. IsFineTerm s.declarations s.game rs t × (value setting v.before.indices n t ≡ value setting v.before.indices v.before.memory.store t)) (items (index_list term))) (sym k.known)
      (indices_settled s i k.above.replications v.before.indices v.before.memory.store k.named n kept term k.phrase k.reads)
