-- The rules of scope in the context, node by node, as in the game.
use Rattle.std.proofs.Common.{◌≡◌, ℕ, suc, ◌+◌, ◌≤◌, ◌<◌, Bool, true, false, cond, ◌&&◌, ◌==◌, List, [], ◌∷◌, ◌++◌, map, ◌⊎◌, inl, inr, length, Option, Some, refl, sym, ap, ap₂, subst, ◌∙◌, eqb-true, arith}
use Rattle.std.proofs.lemmas.Bool.{and_parts, both_ways, eqb-false}
use Rattle.std.specs.List.{AllByRecursion}
use Rattle.cv_syntax.specs.faults.Walk.{IsObeyed}
use Rattle.cv_syntax_trees.specs.declared.head.Head.{Head}
use Rattle.cv_syntax_trees.specs.declared.head.Head.TheVariants.{Stop, Yield, Par, Repl, In, Out, Event, New, Let, If, Find, Branch, Leaf, Read, Cons, Binder, Name, Key}
use Rattle.cv_syntax_trees.specs.Tree.{Tree, Empty, Node, first, first_place, reads_only, second}
use Rattle.cv_meaning.specs.Binders.{bound_names}
use Rattle.cv_scope_rules.specs.declared.fault.Fault.TheVariants as fault
use Rattle.cv_scope_rules.specs.Branches.{HasOtherName, Pairs}
use Rattle.cv_scope_rules.specs.Context.{Context, cell_of, cells_of, items, with_cells}
use Rattle.cv_scope_rules.specs.Phrases.{Phrase, Arm, Binders, Body, Branches, Cells, Else, Guarded, Guards, Indices as NameList, Inputs, Message, Nil, OneCell, Pattern, Term, Terms, Then, is_phrase}
use Rattle.cv_scope_rules.specs.Rules.{IsAmong, Names, carries, is_index}
use Rattle.cv_scope_rules.specs.Scope.{IsScopedAt}
use Rattle.cv_scope_rules.specs.Sites.{Variable, channel_here, named_here, site_of}
use Rattle.cv_scope_rules.specs.Standing.{Standing, first_standing, second_standing}
use Rattle.cv_scope_rules.specs.declared.position.Position.{Position}
use Rattle.cv_scope_rules.specs.declared.position.Position.TheVariants as position
use Rattle.cv_scope_rules.proofs.Apart.{IsApart, IsBefore, IsWithin, before_first, before_second, here_within, past_end, stand_apart}
use Rattle.cv_scope_rules.proofs.Pairs.{pairs_of}
use Rattle.cv_scope_runs.proofs.Rows.{walks}
use Rattle.cv_scene.specs.Sights.{variable_of}
use Rattle.cv_scene.specs.Instances.{Call}
use Rattle.cv_scene.specs.Sites.{Site as CallSite}
use Rattle.cv_scene.specs.Contexts.{after_calls, call_terms, in_context}
use Rattle.cv_scene.specs.LeftTerms.{HasLeftTerms}
use Rattle.cv_scene.specs.Reductions.{Reduction, is_coin, is_plain, matching}
use Rattle.cv_scene.specs.Apt.{AreSitesApt, AreTermsApt, IsApt, IsAptGame, are_cells_apt, inside, is_cell_apt, sites_inside}
use Rattle.cv_match_laws.proofs.values.Numbers.{context}
use Rattle.cv_context_laws.specs.shape.Rules.{AreKept}
use Rattle.cv_context_runs.specs.visits.Fine.{has_free_indices, reads_no_call}
use Rattle.cv_context_runs.proofs.visits.Nodes.{binders_in, empty_in, names_in, nil_in, node_in, pattern_in}
use Rattle.cv_context_laws.proofs.well_formed.Becoming.{is_still}
use Rattle.cv_context_laws.proofs.well_formed.Given.{call_has, sites_have}
use Rattle.cv_context_laws.proofs.well_formed.Shown.{call_still, context_still, phrase_still, still_inner}
use Rattle.cv_context_laws.proofs.well_formed.Reach.{AreNamesOf, AreRead, IsBelow, kept_of_read, read_inner, read_of_kept, reads_move}
use Rattle.cv_context_laws.proofs.well_formed.Spoken.{AreBare, bare_inner, call_read, nil_is, phrase_bare, plain_no_coin, read_in}
use Rattle.cv_syntax_trees.proofs.lists.Each.{AllByRecursion_left}

-- a scoped tree keeps the rules at each node
pub scoped_kept : (N : Names) (s : Standing) (t : Tree) → IsBefore s → IsScopedAt N s t → AreKept N s.position s.known s.place t
unfolding IsObeyed AreKept
scoped_kept N s Empty m i = tt
scoped_kept N s (Node h a b) m i =
    let rs = s.known.replications in
    let named = named_here rs s.place h a in (
      record {
        scope = i.0 fault.Unscoped;
        carries = (i.0 fault.Channel).0;
        few = (i.0 fault.Replications).0;
        few_indices = (i.0 fault.Replications).1;
        index = (i.0 fault.Replications).2;
        own = pairs_of (IsWithin s.place (first_place s.place h)) (IsApart s.passed) HasOtherName named (λ x y u v n e. past_end s.passed s.place x.place m.passed u.0 (n e).0) (AllByRecursion_left (IsWithin s.place (first_place s.place h)) named (channel_here rs s.place h a) (here_within rs s.place h a)) (stand_apart s.passed named s.sites (i.0 fault.TwoSites)).1;
      },
      scoped_kept N (first_standing s h a) a (before_first s h a m) i.1,
      scoped_kept N (second_standing s h a) b (before_second s h a m) i.2,
    )

-- cells

among_left : (t : Tree) (xs ys : List Tree) → IsAmong t xs → IsAmong t (xs ++ ys)
among_left t [] ys m = absurd m
among_left t (x ∷ xs) ys (inl e) = inl e
among_left t (x ∷ xs) ys (inr m) = inr (among_left t xs ys m)

among_right : (t : Tree) (xs ys : List Tree) → IsAmong t ys → IsAmong t (xs ++ ys)
among_right t [] ys m = m
among_right t (x ∷ xs) ys m = inr (among_right t xs ys m)

among_split : (t : Tree) (xs ys : List Tree) → IsAmong t (xs ++ ys) → IsAmong t xs ⊎ IsAmong t ys
among_split t [] ys m = inr m
among_split t (x ∷ xs) ys (inl e) = inl (inl e)
among_split t (x ∷ xs) ys (inr m) = go (among_split t xs ys m)
  where
    go : IsAmong t xs ⊎ IsAmong t ys → IsAmong t (x ∷ xs) ⊎ IsAmong t ys
    go (inl n) = inl (inr n)
    go (inr n) = inr n

more : (r : Reduction) (Γ Δ : Context) (cs ds : List Tree) → IsBelow r Γ Δ → ds ≡ cs → (c : Tree) (x : ℕ) → variable_of c ≡ Some x → is_coin r x ≡ false → IsAmong c (Γ.cells ++ cs) → IsAmong c (Δ.cells ++ ds)
more r Γ Δ cs ds m e c x v n k = go (among_split c Γ.cells cs k)
  where
    go : IsAmong c Γ.cells ⊎ IsAmong c cs → IsAmong c (Δ.cells ++ ds)
    go (inl l) = among_left c Δ.cells ds (m.cells c x v n l)
    go (inr l) = among_right c Δ.cells ds (subst (IsAmong c) (sym e) l)

with_more : (r : Reduction) (Γ Δ : Context) (cs ds : List Tree) → IsBelow r Γ Δ → ds ≡ cs → IsBelow r (with_cells Γ cs) (with_cells Δ ds)
with_more r Γ Δ cs ds m e = record { replications = m.replications; own = m.own; cells = more r Γ Δ cs ds m e }

cell_variable : (rs : List (ℕ × ℕ)) (x : ℕ) → variable_of (cell_of rs x) ≡ Some x
cell_variable [] x = refl
cell_variable (q ∷ rs) x = refl

-- a coin's cell is not wanted
without_coin : (r : Reduction) (Γ Δ : Context) (x : ℕ) → is_coin r x ≡ true → IsBelow r Γ Δ → IsBelow r (with_cells Γ (cell_of Γ.replications x ∷ [])) Δ
without_coin r Γ Δ x f m = record { replications = m.replications; own = m.own; cells = λ c y v n k. go c y v n (among_split c Γ.cells (cell_of Γ.replications x ∷ []) k) }
  where
    same : (y : ℕ) → ◌≡◌ {A = Option ℕ} (Some x) (Some y) → x ≡ y
    same y e = cc

    go : (c : Tree) (y : ℕ) → variable_of c ≡ Some y → is_coin r y ≡ false → IsAmong c Γ.cells ⊎ IsAmong c (cell_of Γ.replications x ∷ []) → IsAmong c Δ.cells
    go c y v n (inl l) = m.cells c y v n l
    go c y v n (inr (inl e)) = absurd (both_ways _ n (subst (λ z. is_coin r z ≡ true) (same y (sym (cell_variable Γ.replications x) ∙ ap variable_of (sym e) ∙ v)) f))
    go c y v n (inr (inr l)) = absurd l

wide : (r : Reduction) (Γ Δ : Context) → IsBelow r Γ Δ → length Γ.replications ≤ 8 → length Δ.replications ≤ 8
wide r Γ Δ m l = subst (λ rs. length rs ≤ 8) (sym m.replications) l

own_names : (rs qs : List (ℕ × ℕ)) (p q : ℕ) (xs : List ℕ) → Pairs HasOtherName (map (λ x. site_of rs p (Variable x)) xs) → Pairs HasOtherName (map (λ x. site_of qs q (Variable x)) xs)
own_names rs qs p q [] h = tt
own_names rs qs p q (x ∷ xs) h = (row xs h.0, own_names rs qs p q xs h.1)
  where
    row : (ys : List ℕ) → AllByRecursion (HasOtherName (site_of rs p (Variable x))) (map (λ y. site_of rs p (Variable y)) ys) → AllByRecursion (HasOtherName (site_of qs q (Variable x))) (map (λ y. site_of qs q (Variable y)) ys)
    row [] h = tt
    row (y ∷ ys) h = (h.0, row ys h.1)

-- lists of names and of binders read nothing
module _ (on : ℕ → Bool) where
  nil_reads : (t : Tree) → is_phrase Nil t ≡ true → reads_only on t ≡ true
  unfolding is_phrase reads_only
  nil_reads Empty e = refl
  nil_reads (Node h a b) e = absurd (both_ways false refl e)

  names_read : (t : Tree) → is_phrase NameList t ≡ true → reads_only on t ≡ true
  unfolding is_phrase reads_only
  names_read Empty e = refl
  names_read (Node (Name i) a b) e = let p = and_parts (is_phrase Nil a) _ e in ap₂ ◌&&◌ (nil_reads a p.0) (names_read b p.1)
  names_read (Node h a b) e = absurd (both_ways false refl e)

  binders_read : (t : Tree) → is_phrase Binders t ≡ true → reads_only on t ≡ true
  unfolding is_phrase reads_only
  binders_read Empty e = refl
  binders_read (Node (Binder x T) a b) e = let p = and_parts (is_phrase Nil a) _ e in ap₂ ◌&&◌ (nil_reads a p.0) (binders_read b p.1)
  binders_read (Node h a b) e = absurd (both_ways false refl e)

  pattern_reads : (t : Tree) → is_phrase Pattern t ≡ true → reads_only on t ≡ true
  unfolding is_phrase reads_only
  pattern_reads Empty e = absurd (both_ways false refl e)
  pattern_reads (Node Cons a b) e = let p = and_parts (is_phrase NameList a) _ e in ap₂ ◌&&◌ (names_read a p.0) (binders_read b p.1)
  pattern_reads (Node h a b) e = absurd (both_ways false refl e)

free_inner : (r : Reduction) (h : Head) (a b : Tree) → has_free_indices (matching r) (Node h a b) ≡ true → (has_free_indices (matching r) a ≡ true) × (has_free_indices (matching r) b ≡ true)
unfolding has_free_indices
free_inner r h a b f = and_parts (has_free_indices (matching r) a) (has_free_indices (matching r) b) (and_parts (reads_no_call (matching r) h a) _ f).1

module _ (r : Reduction) (apt : IsAptGame r) (left : HasLeftTerms r.scene.declarations (matching r).group) (N M : Names) (names : AreNamesOf r N M) where
  nil_kept : (w : Position) (Δ : Context) (q : ℕ) (rs : List (ℕ × ℕ)) (j : ℕ) (a : Tree) → is_phrase Nil a ≡ true → AreKept M w Δ q (context r position.Anywhere rs j a)
  unfolding AreKept
  nil_kept w Δ q rs j a e = subst (AreKept M w Δ q) (sym (nil_in r rs j a e ∙ nil_is a e)) tt

  quiet_kept : (Γ Δ : Context) (p q : ℕ) (t : Tree) → IsBelow r Γ Δ → is_still t ≡ true → reads_only (is_plain r) t ≡ true → AreKept N position.Anywhere Γ p t → AreKept M position.Anywhere Δ q t
  unfolding AreKept
  quiet_kept Γ Δ p q Empty m s e k = tt
  quiet_kept Γ Δ p q (Node h a b) m s e k =
      kept_of_read M Δ q (Node h a b) s (wide r Γ Δ m k.0.few) (reads_move r N M Γ Δ names m (is_plain r) (plain_no_coin r) (Node h a b) e (read_of_kept N Γ p (Node h a b) s k))

  cell_kept : (Γ Δ : Context) (p q : ℕ) (t : Tree) → IsBelow r Γ Δ → is_phrase OneCell t ≡ true → is_cell_apt r t ≡ true → AreKept N position.OneCell Γ p t → AreKept M position.OneCell Δ q t
  unfolding AreKept is_phrase
  cell_kept Γ Δ p q Empty m e f k = tt
  cell_kept Γ Δ p q (Node (Leaf x) a b) m e f k =
      let u = and_parts (is_phrase Nil a) _ e in (
        record { scope = tt; carries = refl; few = wide r Γ Δ m k.0.few; few_indices = tt; index = tt; own = tt },
        subst (AreKept M position.Anywhere Δ _) (sym (nil_is a u.0)) tt,
        subst (AreKept M position.Anywhere Δ _) (sym (nil_is b u.1)) tt,
      )
  cell_kept Γ Δ p q (Node (Read x) a b) m e f k =
      let u = and_parts (is_phrase Terms a) _ e in
      let v = and_parts _ (reads_only (is_plain r) a) f in (
        record { scope = tt; carries = refl; few = wide r Γ Δ m k.0.few; few_indices = tt; index = tt; own = tt },
        quiet_kept Γ Δ _ _ a m (phrase_still a Terms refl u.0) v.1 k.1,
        subst (AreKept M position.Anywhere Δ _) (sym (nil_is b u.1)) tt,
      )
  cell_kept Γ Δ p q (Node h a b) m e f k = absurd (both_ways false refl e)

  cells_kept : (Γ Δ : Context) (p q : ℕ) (t : Tree) → IsBelow r Γ Δ → is_phrase Cells t ≡ true → are_cells_apt r t ≡ true → AreKept N position.Cells Γ p t → AreKept M position.Cells Δ q t
  unfolding AreKept is_phrase are_cells_apt
  cells_kept Γ Δ p q Empty m e f k = tt
  cells_kept Γ Δ p q (Node Cons c t) m e f k =
      let u = and_parts (is_phrase OneCell c) _ e in
      let v = and_parts (is_cell_apt r c) _ f in (
        record { scope = tt; carries = refl; few = wide r Γ Δ m k.0.few; few_indices = tt; index = tt; own = tt },
        cell_kept Γ Δ _ _ c m u.0 v.0 k.1,
        cells_kept (with_cells Γ (c ∷ [])) (with_cells Δ (c ∷ [])) _ _ t (with_more r Γ Δ (c ∷ []) (c ∷ []) m refl) u.1 v.1 k.2,
      )
  cells_kept Γ Δ p q (Node h a b) m e f k = absurd (both_ways false refl e)

  -- calls before a statement, behind which their answers are known

  abbrev CallReads : Context → Call → Type 0
  CallReads Γ c = (AreRead N Γ c.instance.key × AreBare c.instance.key) × AllByRecursion (λ m. AreRead N Γ m × AreBare m) c.instance.arguments

  calls_kept : (rs : List (ℕ × ℕ)) (Γ Δ : Context) (ss : List CallSite) (j : ℕ) (d : Tree) → Γ.replications ≡ rs → length Γ.replications ≤ 8 → IsBelow r Γ Δ → AreSitesApt r rs j ss → AllByRecursion (λ (s : CallSite). CallReads Γ s.call) ss
      → AllByRecursion (λ (s : CallSite). is_still (call_terms s.call.instance) ≡ true) ss
      → ((Θ : Context) → IsBelow r Γ Θ → ((c : Tree) → IsAmong c Δ.cells → IsAmong c Θ.cells) → ((i : ℕ) → j ≤ i → i < j + length ss → IsAmong (cell_of rs (r.answer i)) Θ.cells) → (q : ℕ) → AreKept M position.Anywhere Θ q d)
      → (q : ℕ) → AreKept M position.Anywhere Δ q (after_calls r.answer j ss d)
  unfolding AreKept
  calls_kept rs Γ Δ [] j d e l m a c s K q = K Δ m (λ c k. k) (λ i x y. absurd (omega (arith, x, y))) q
  calls_kept rs Γ Δ (x ∷ ss) j d e l m a c s K q =
      let Θ : Context = with_cells Δ (cell_of Δ.replications (r.answer j) ∷ []) in (
        record { scope = tt; carries = refl; few = wide r Γ Δ m l; few_indices = tt; index = tt; own = (tt, tt) },
        kept_of_read M Δ _ (call_terms x.call.instance) s.0 (wide r Γ Δ m l) (call_read r apt left N M Γ Δ names m rs j x a.0 c.0.0 c.0.1),
        calls_kept rs Γ Θ ss (suc j) d e l (record { replications = m.replications; own = m.own; cells = λ t y v n k. among_left t Δ.cells (cell_of Δ.replications (r.answer j) ∷ []) (m.cells t y v n k) }) a.1 c.1 s.1
            (λ Λ n kn known p. K Λ n (λ t k. kn t (among_left t Δ.cells (cell_of Δ.replications (r.answer j) ∷ []) k))
            (λ i u v. by Λ (kn (cell_of rs (r.answer j)) (among_right (cell_of rs (r.answer j)) Δ.cells (cell_of Δ.replications (r.answer j) ∷ []) (inl (ap (λ qs. cell_of qs (r.answer j)) (sym (m.replications ∙ e)))))) known i u v (j == i) refl) p) _,
      )
    where
      by : (Λ : Context) → IsAmong (cell_of rs (r.answer j)) Λ.cells → ((i : ℕ) → suc j ≤ i → i < suc j + length ss → IsAmong (cell_of rs (r.answer i)) Λ.cells) → (i : ℕ) → j ≤ i → i < j + suc (length ss) → (b : Bool) → (j == i) ≡ b → IsAmong (cell_of rs (r.answer i)) Λ.cells
      by Λ here known i u v true f = subst (λ z. IsAmong (cell_of rs (r.answer z)) Λ.cells) (eqb-true j i f) here
      by Λ here known i u v false f = known i (let g = eqb-false j i f in omega (arith, u, g)) (omega (arith, v))

  statement_kept : (σ : Phrase) (h : Head) (rs : List (ℕ × ℕ)) (j : ℕ) (a d : Tree) (Γ Δ : Context) (q : ℕ) → walks σ ≡ false → is_phrase σ a ≡ true → AreTermsApt r rs j a → has_free_indices (matching r) a ≡ true → Γ.replications ≡ rs → length Γ.replications ≤ 8 → IsBelow r Γ Δ → AreRead N Γ a
      → ((Θ : Context) → IsBelow r Γ Θ → ((p : ℕ) → AreKept M position.Anywhere Θ p (context r position.Anywhere rs j a)) → (p : ℕ) → AreKept M position.Anywhere Θ p (Node h (context r position.Anywhere rs j a) d))
      → AreKept M position.Anywhere Δ q (after_calls r.answer j (sites_inside r rs a) (Node h (context r position.Anywhere rs j a) d))
  statement_kept σ h rs j a d Γ Δ q w p s f e l m k K =
      let still = phrase_still a σ w p in
      calls_kept rs Γ Δ (sites_inside r rs a) j (Node h (context r position.Anywhere rs j a) d) e l m s.sites
      (sites_have (λ t. AreRead N Γ t × AreBare t) (λ h a b z. let x = read_inner N Γ h a b z.0 in let y = bare_inner h a b z.1 in ((x.0, y.0), (x.1, y.1))) (matching r) (CallReads Γ)
      (λ t c o z. call_has (λ t. AreRead N Γ t × AreBare t) (λ h a b z. let x = read_inner N Γ h a b z.0 in let y = bare_inner h a b z.1 in ((x.0, y.0), (x.1, y.1))) r.scene.declarations (matching r) t c left o z)
      position.Anywhere rs 0 a (k, phrase_bare a σ p))
      (sites_have (λ t. is_still t ≡ true) still_inner (matching r) (λ c. is_still (call_terms c.instance) ≡ true)
      (λ t c o z. let x = call_has (λ t. is_still t ≡ true) still_inner r.scene.declarations (matching r) t c left o z in call_still c.instance.key c.instance.arguments x.0 x.1)
      position.Anywhere rs 0 a still)
      (λ Θ n kn known p1. K Θ n (λ p2. kept_of_read M Θ p2 (context r position.Anywhere rs j a) (context_still r apt left position.Anywhere rs j a still) (wide r Γ Θ n l) (read_in r apt left N M Γ Θ names n rs e a σ j w p s.outside f known k)) p1) q

  message_first : (rs : List (ℕ × ℕ)) (j : ℕ) (a : Tree) → is_phrase Message a ≡ true → first (context r position.Anywhere rs j a) ≡ first a
  unfolding is_phrase
  message_first rs j Empty e = absurd (both_ways false refl e)
  message_first rs j (Node Cons i t) e = ap first (node_in r apt.terms position.Anywhere rs j Cons i t refl) ∙ names_in r apt.terms rs j i (and_parts (is_phrase NameList i) _ e).0
  message_first rs j (Node h a b) e = absurd (both_ways false refl e)

  abbrev Kept : Position → List (ℕ × ℕ) → ℕ → Tree → Type 0
  Kept w rs j t = (Γ Δ : Context) (p q : ℕ) → Γ.replications ≡ rs → IsBelow r Γ Δ → AreKept N w Γ p t → AreKept M w Δ q (context r w rs j t)

  -- a definition by `new`: it stays, is the key's, or is a coin's and gone
  drawn_kept : (x T : ℕ) (Γ Δ : Context) (q : ℕ) (a c d : Tree) → length Δ.replications ≤ 8 → IsBelow r Γ Δ → ((z : ℕ) → AreKept M position.Anywhere Δ z c) → ((Θ : Context) → IsBelow r (with_cells Γ (cell_of Γ.replications x ∷ [])) Θ → (z : ℕ) → AreKept M position.Anywhere Θ z d)
      → AreKept M position.Anywhere Δ q (in_context (matching r) (is_coin r) (New x T) c d)
  unfolding AreKept
  drawn_kept x T Γ Δ q a c d l m kc kd = by (x == r.key) (is_coin r x) refl
    where
      grown : IsBelow r (with_cells Γ (cell_of Γ.replications x ∷ [])) (with_cells Δ (cell_of Δ.replications x ∷ []))
      grown = with_more r Γ Δ (cell_of Γ.replications x ∷ []) (cell_of Δ.replications x ∷ []) m (ap (λ qs. cell_of qs x ∷ []) m.replications)

      by : (y z : Bool) → is_coin r x ≡ z → AreKept M position.Anywhere Δ q (cond y (Node (Key x) Empty d) (cond z d (Node (New x T) c d)))
      by true z f = (record { scope = tt; carries = refl; few = l; few_indices = tt; index = tt; own = (tt, tt) }, tt, kd (with_cells Δ (cell_of Δ.replications x ∷ [])) grown _)
      by false true f = kd Δ (without_coin r Γ Δ x f m) q
      by false false f = (record { scope = tt; carries = refl; few = l; few_indices = tt; index = tt; own = (tt, tt) }, kc _, kd (with_cells Δ (cell_of Δ.replications x ∷ [])) grown _)

  mutual
    unfolding is_phrase IsApt AreKept

    pub inputs_kept : (t : Tree) (rs : List (ℕ × ℕ)) (j : ℕ) → is_phrase Inputs t ≡ true → IsApt r Inputs rs j t → has_free_indices (matching r) t ≡ true → Kept position.Anywhere rs j t
    inputs_kept (Node Stop a b) rs j e s f Γ Δ p q l m k =
        let u = and_parts (is_phrase Nil a) _ e in
        subst (AreKept M position.Anywhere Δ q) (sym (node_in r apt.terms position.Anywhere rs j Stop a b refl))
        (record { scope = tt; carries = refl; few = wide r Γ Δ m k.0.few; few_indices = tt; index = tt; own = tt }, nil_kept position.Anywhere Δ _ rs j a u.0, nil_kept position.Anywhere Δ _ rs _ b u.1)
    inputs_kept (Node Par a b) rs j e s f Γ Δ p q l m k =
        let u = and_parts (is_phrase Inputs a) _ e in
        let v = free_inner r Par a b f in
        subst (AreKept M position.Anywhere Δ q) (sym (node_in r apt.terms position.Anywhere rs j Par a b refl))
        (record { scope = tt; carries = refl; few = wide r Γ Δ m k.0.few; few_indices = tt; index = tt; own = tt }, inputs_kept a rs j u.0 s.1.0 v.0 Γ Δ _ _ l m k.1, inputs_kept b rs _ u.1 s.1.1 v.1 Γ Δ _ _ l m k.2)
    inputs_kept (Node (Repl x n) a b) rs j e s f Γ Δ p q l m k =
        let u = and_parts (is_phrase Nil a) _ e in
        let v = free_inner r (Repl x n) a b f in
        subst (AreKept M position.Anywhere Δ q) (sym (node_in r apt.terms position.Anywhere rs j (Repl x n) a b refl)) (
          record { scope = tt; carries = refl; few = wide r Γ Δ m k.0.few; few_indices = tt; index = (subst (λ qs. is_index qs x ≡ false) (sym m.replications) k.0.index.0, names.variable x s.0.plain k.0.index.1); own = tt },
          nil_kept position.Anywhere Δ _ rs j a u.0,
          inputs_kept b _ _ u.1 s.1.1 v.1 _ _ _ _ (ap (λ qs. qs ++ (x, n) ∷ []) l) (record { replications = ap (λ qs. qs ++ (x, n) ∷ []) m.replications; own = m.own; cells = m.cells }) k.2,
        )
    inputs_kept (Node (In c) a b) rs j e s f Γ Δ p q l m k =
        let u = and_parts (is_phrase Pattern a) _ e in
        let v = free_inner r (In c) a b f in
        subst (AreKept M position.Anywhere Δ q)
        (sym (node_in r apt.terms position.Anywhere rs j (In c) a b refl ∙ ap (λ z. Node (In c) z (context r position.Anywhere rs (j + length (inside r position.Anywhere rs (In c) a)) b)) (pattern_in r apt.terms rs j a u.0))) (
          record { scope = tt; carries = subst (λ qs. carries qs (first a) ≡ true) (sym m.replications) k.0.carries; few = wide r Γ Δ m k.0.few; few_indices = tt; index = tt; own = own_names Γ.replications Δ.replications p q (bound_names (second a)) k.0.own },
          quiet_kept Γ Δ _ _ a m (phrase_still a Pattern refl u.0) (pattern_reads (is_plain r) a u.0) k.1,
          body_kept b rs _ u.1 s.1.1 v.1 _ _ _ _ l (with_more r Γ Δ (cells_of Γ.replications (second a)) (cells_of Δ.replications (second a)) m (ap (λ qs. cells_of qs (second a)) m.replications)) k.2,
        )
    inputs_kept t rs j e s f Γ Δ p q l m k = absurd (both_ways false refl e)

    body_kept : (t : Tree) (rs : List (ℕ × ℕ)) (j : ℕ) → is_phrase Body t ≡ true → IsApt r Body rs j t → has_free_indices (matching r) t ≡ true → Kept position.Anywhere rs j t
    body_kept (Node Yield a b) rs j e s f Γ Δ p q l m k =
        let u = and_parts (is_phrase Nil a) _ e in
        subst (AreKept M position.Anywhere Δ q) (sym (node_in r apt.terms position.Anywhere rs j Yield a b refl))
        (record { scope = tt; carries = refl; few = wide r Γ Δ m k.0.few; few_indices = tt; index = tt; own = tt }, nil_kept position.Anywhere Δ _ rs j a u.0, nil_kept position.Anywhere Δ _ rs _ b u.1)
    body_kept (Node (New x T) a b) rs j e s f Γ Δ p q l m k =
        let u = and_parts (is_phrase Nil a) _ e in
        let v = free_inner r (New x T) a b f in
        subst (AreKept M position.Anywhere Δ q) (sym (node_in r apt.terms position.Anywhere rs j (New x T) a b refl))
        (drawn_kept x T Γ Δ q a _ _ (wide r Γ Δ m k.0.few) m (λ z. nil_kept position.Anywhere Δ z rs j a u.0) (λ Θ n z. body_kept b rs _ u.1 s.1.1 v.1 (with_cells Γ (cell_of Γ.replications x ∷ [])) Θ _ z l n k.2))
    body_kept (Node (Let x T) a b) rs j e s f Γ Δ p q l m k =
        let u = and_parts (is_phrase Term a) _ e in
        let v = free_inner r (Let x T) a b f in
        subst (AreKept M position.Anywhere Δ q) (sym (node_in r apt.terms position.Anywhere rs j (Let x T) a b refl))
        (statement_kept Term (Let x T) rs j a _ Γ Δ q refl u.0 s.0.1 v.0 l k.0.few m (read_of_kept N Γ _ a (phrase_still a Term refl u.0) k.1)
        (λ Θ n ka z. (
          record { scope = tt; carries = refl; few = wide r Γ Θ n k.0.few; few_indices = tt; index = tt; own = (tt, tt) },
          ka _,
          body_kept b rs _ u.1 s.1.1 v.1 _ _ _ _ l (let w = with_more r Γ Θ (cell_of Γ.replications x ∷ []) (cell_of Θ.replications x ∷ []) n (ap (λ qs. cell_of qs x ∷ []) n.replications) in record { replications = w.replications; own = w.own; cells = w.cells }) k.2,
        )))
    body_kept (Node (Event x) a b) rs j e s f Γ Δ p q l m k =
        let u = and_parts (is_phrase Terms a) _ e in
        let v = free_inner r (Event x) a b f in
        subst (AreKept M position.Anywhere Δ q) (sym (node_in r apt.terms position.Anywhere rs j (Event x) a b refl))
        (statement_kept Terms (Event x) rs j a _ Γ Δ q refl u.0 s.0 v.0 l k.0.few m (read_of_kept N Γ _ a (phrase_still a Terms refl u.0) k.1)
        (λ Θ n ka z. (record { scope = tt; carries = refl; few = wide r Γ Θ n k.0.few; few_indices = tt; index = tt; own = tt }, ka _, body_kept b rs _ u.1 s.1.1 v.1 _ _ _ _ l (record { replications = n.replications; own = n.own; cells = n.cells }) k.2)))
    body_kept (Node If a b) rs j e s f Γ Δ p q l m k =
        let u = and_parts (is_phrase Term a) _ e in
        let v = free_inner r If a b f in
        subst (AreKept M position.Anywhere Δ q) (sym (node_in r apt.terms position.Anywhere rs j If a b refl))
        (statement_kept Term If rs j a _ Γ Δ q refl u.0 s.0 v.0 l k.0.few m (read_of_kept N Γ _ a (phrase_still a Term refl u.0) k.1)
        (λ Θ n ka z. (record { scope = tt; carries = refl; few = wide r Γ Θ n k.0.few; few_indices = tt; index = tt; own = tt }, ka _, then_kept b rs _ u.1 s.1.1 v.1 _ _ _ _ l (record { replications = n.replications; own = n.own; cells = n.cells }) k.2)))
    body_kept (Node (Out c) a b) rs j e s f Γ Δ p q l m k =
        let u = and_parts (is_phrase Message a) _ e in
        let v = free_inner r (Out c) a b f in
        subst (AreKept M position.Anywhere Δ q) (sym (node_in r apt.terms position.Anywhere rs j (Out c) a b refl))
        (statement_kept Message (Out c) rs j a _ Γ Δ q refl u.0 s.0 v.0 l k.0.few m (read_of_kept N Γ _ a (phrase_still a Message refl u.0) k.1)
        (λ Θ n ka z. (
          record { scope = tt; carries = ap (carries Θ.replications) (message_first rs j a u.0) ∙ ap (λ qs. carries qs (first a)) n.replications ∙ k.0.carries; few = wide r Γ Θ n k.0.few; few_indices = tt; index = tt; own = tt },
          ka _,
          inputs_kept b rs _ u.1 s.1.1 v.1 _ _ _ _ l n k.2,
        )))
    body_kept (Node (Find x) a b) rs j e s f Γ Δ p q l m k =
        let u = and_parts (is_phrase Branches a) _ e in
        let v = free_inner r (Find x) a b f in
        subst (AreKept M position.Anywhere Δ q) (sym (node_in r apt.terms position.Anywhere rs j (Find x) a b refl))
        (record { scope = tt; carries = refl; few = wide r Γ Δ m k.0.few; few_indices = tt; index = tt; own = (tt, tt) }, branches_kept a rs j u.0 s.1.0 v.0 Γ Δ _ _ l m k.1, body_kept b rs _ u.1 s.1.1 v.1 Γ Δ _ _ l m k.2)
    body_kept t rs j e s f Γ Δ p q l m k = absurd (both_ways false refl e)

    then_kept : (t : Tree) (rs : List (ℕ × ℕ)) (j : ℕ) → is_phrase Then t ≡ true → IsApt r Then rs j t → has_free_indices (matching r) t ≡ true → Kept position.Bodies rs j t
    then_kept (Node Cons a b) rs j e s f Γ Δ p q l m k =
        let u = and_parts (is_phrase Body a) _ e in
        let v = free_inner r Cons a b f in
        subst (AreKept M position.Bodies Δ q) (sym (node_in r apt.terms position.Bodies rs j Cons a b refl))
        (record { scope = tt; carries = refl; few = wide r Γ Δ m k.0.few; few_indices = tt; index = tt; own = tt }, body_kept a rs j u.0 s.1.0 v.0 _ _ _ _ l (record { replications = m.replications; own = m.own; cells = m.cells }) k.1, else_kept b rs _ u.1 s.1.1 v.1 Γ Δ _ _ l m k.2)
    then_kept t rs j e s f Γ Δ p q l m k = absurd (both_ways false refl e)

    else_kept : (t : Tree) (rs : List (ℕ × ℕ)) (j : ℕ) → is_phrase Else t ≡ true → IsApt r Else rs j t → has_free_indices (matching r) t ≡ true → Kept position.ElseBody rs j t
    else_kept (Node Cons a b) rs j e s f Γ Δ p q l m k =
        let u = and_parts (is_phrase Body a) _ e in
        let v = free_inner r Cons a b f in
        subst (AreKept M position.ElseBody Δ q) (sym (node_in r apt.terms position.ElseBody rs j Cons a b refl))
        (record { scope = tt; carries = refl; few = wide r Γ Δ m k.0.few; few_indices = tt; index = tt; own = tt }, body_kept a rs j u.0 s.1.0 v.0 _ _ _ _ l (record { replications = m.replications; own = m.own; cells = m.cells }) k.1, nil_kept position.Anywhere Δ _ rs _ b u.1)
    else_kept t rs j e s f Γ Δ p q l m k = absurd (both_ways false refl e)

    branches_kept : (t : Tree) (rs : List (ℕ × ℕ)) (j : ℕ) → is_phrase Branches t ≡ true → IsApt r Branches rs j t → has_free_indices (matching r) t ≡ true → Kept position.Branches rs j t
    branches_kept Empty rs j e s f Γ Δ p q l m k = subst (AreKept M position.Branches Δ q) (sym (empty_in r position.Branches rs j)) tt
    branches_kept (Node Cons a b) rs j e s f Γ Δ p q l m k =
        let u = and_parts (is_phrase Arm a) _ e in
        let v = free_inner r Cons a b f in
        subst (AreKept M position.Branches Δ q) (sym (node_in r apt.terms position.Branches rs j Cons a b refl))
        (record { scope = tt; carries = refl; few = wide r Γ Δ m k.0.few; few_indices = tt; index = tt; own = tt }, arm_kept a rs j u.0 s.1.0 v.0 Γ Δ _ _ l m k.1, branches_kept b rs _ u.1 s.1.1 v.1 Γ Δ _ _ l m k.2)
    branches_kept t rs j e s f Γ Δ p q l m k = absurd (both_ways false refl e)

    arm_kept : (t : Tree) (rs : List (ℕ × ℕ)) (j : ℕ) → is_phrase Arm t ≡ true → IsApt r Arm rs j t → has_free_indices (matching r) t ≡ true → Kept position.Anywhere rs j t
    arm_kept (Node Branch a b) rs j e s f Γ Δ p q l m k =
        let u = and_parts (is_phrase Binders a) _ e in
        let v = free_inner r Branch a b f in
        subst (AreKept M position.Anywhere Δ q)
        (sym (node_in r apt.terms position.Anywhere rs j Branch a b refl ∙ ap (λ z. Node Branch z (context r position.Guards rs (j + length (inside r position.Anywhere rs Branch a)) b)) (binders_in r apt.terms rs j a u.0))) (
          record { scope = tt; carries = refl; few = wide r Γ Δ m k.0.few; few_indices = k.0.few_indices; index = tt; own = own_names Γ.replications Δ.replications p q (bound_names a) k.0.own },
          quiet_kept Γ Δ _ _ a m (phrase_still a Binders refl u.0) (binders_read (is_plain r) a u.0) k.1,
          guards_kept b rs _ u.1 s.1.1 v.1 _ _ _ _ l (record { replications = m.replications; own = ap₂ ◌++◌ m.own (ap (λ qs. cells_of qs a) m.replications); cells = m.cells }) k.2,
        )
    arm_kept t rs j e s f Γ Δ p q l m k = absurd (both_ways false refl e)

    guards_kept : (t : Tree) (rs : List (ℕ × ℕ)) (j : ℕ) → is_phrase Guards t ≡ true → IsApt r Guards rs j t → has_free_indices (matching r) t ≡ true → Kept position.Guards rs j t
    guards_kept (Node Cons a b) rs j e s f Γ Δ p q l m k =
        let u = and_parts (is_phrase Cells a) _ e in
        let v = free_inner r Cons a b f in
        subst (AreKept M position.Guards Δ q) (sym (node_in r apt.terms position.Guards rs j Cons a b refl))
        (record { scope = tt; carries = refl; few = wide r Γ Δ m k.0.few; few_indices = tt; index = tt; own = tt }, cells_kept Γ Δ _ _ a m u.0 s.0 k.1, guarded_kept b rs _ u.1 s.1.1 v.1 _ _ _ _ l (with_more r Γ Δ (items a) (items a) m refl) k.2)
    guards_kept t rs j e s f Γ Δ p q l m k = absurd (both_ways false refl e)

    guarded_kept : (t : Tree) (rs : List (ℕ × ℕ)) (j : ℕ) → is_phrase Guarded t ≡ true → IsApt r Guarded rs j t → has_free_indices (matching r) t ≡ true → Kept position.Guarded rs j t
    guarded_kept (Node Cons a b) rs j e s f Γ Δ p q l m k =
        let u = and_parts (is_phrase Term a) _ e in
        let v = free_inner r Cons a b f in
        subst (AreKept M position.Guarded Δ q) (sym (node_in r apt.terms position.Guarded rs j Cons a b refl)) (
          record { scope = tt; carries = refl; few = wide r Γ Δ m k.0.few; few_indices = tt; index = tt; own = tt },
          quiet_kept Γ Δ _ _ a m (phrase_still a Term refl u.0) s.0 k.1,
          body_kept b rs _ u.1 s.1.1 v.1 _ _ _ _ l (record { replications = m.replications; own = refl; cells = more r Γ Δ Γ.own Δ.own m m.own }) k.2,
        )
    guarded_kept t rs j e s f Γ Δ p q l m k = absurd (both_ways false refl e)
