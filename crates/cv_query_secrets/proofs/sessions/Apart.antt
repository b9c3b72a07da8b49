-- No two copies have one draw, and no copy has two: by the pairs of a certificate, and since a cell is assigned once.
use Rattle.std.proofs.Common.{◌≡◌, ℕ, zero, suc, ◌==◌, Bool, true, false, ◌&&◌, ◌||◌, not, List, [], ◌∷◌, map, ◌⊎◌, inl, inr, Option, Some, None, is_some, refl, sym, ap, subst, ◌∙◌, eq-eqb}
use Rattle.std.proofs.lemmas.Bool.{and_parts, both_ways, or_cases}
use Rattle.std.specs.Prelude.{slice_get}
use Rattle.std.specs.List.{AllByRecursion}
use Rattle.cv_syntax_trees.proofs.lists.Options.{AllByRecursion_slice_get, none_from_not_some, none_some, some_injective}
use Rattle.cv_syntax.specs.Layouts.{IsSyntax}
use Rattle.cv_syntax_trees.specs.declared.head.Head.TheVariants.{Let}
use Rattle.cv_syntax_trees.specs.Tree.{Tree, Node, chain}
use Rattle.cv_meaning.specs.Tapes.{Cell, New_at, Tape}
use Rattle.cv_meaning.specs.Interpretation.{Interpretation, Setting, setting_of}
use Rattle.cv_meaning.specs.Memory.{Indices, Memory, Store, tuple}
use Rattle.cv_meaning.specs.Runs.{Adversary, Mode, State}
use Rattle.cv_meaning.specs.Serving.{Visit}
use Rattle.cv_meaning.specs.Terms.{found_in, value, values, values_here}
use Rattle.cv_meaning.specs.Experiments.{coins_on, run, visits_of_run}
use Rattle.cv_meaning_laws.specs.adequacy.Broken.{StandsAt}
use Rattle.cv_meaning_laws.proofs.Listed.{Has}
use Rattle.cv_meaning_runs.specs.Placed.{VisitHas}
use Rattle.cv_scope_rules.specs.Branches.{Pairs}
use Rattle.cv_scope_rules.specs.Context.{items}
use Rattle.cv_scope_rules.specs.Made.{MakeApart, made_at}
use Rattle.cv_scope_rules.specs.Scope.{is_variable}
use Rattle.cv_scope_rules.specs.Sites.{Variable}
use Rattle.cv_scope_runs.specs.Promises.{GrowsTo}
use Rattle.cv_scope_runs.proofs.ServeRuns.{VisitHolds, game_holds}
use Rattle.cv_scene.specs.lines.Ends.{ends_with}
use Rattle.cv_scene.specs.lines.Truths.{no}
use Rattle.cv_scene.specs.Derivations.{Derives, first_bad_line}
use Rattle.cv_scene.specs.Late.{index_term}
use Rattle.cv_scene.specs.Pairs.{all_of_second, of_second, pair_at, second_indices}
use Rattle.cv_scene.specs.Scenes.{Scene}
use Rattle.cv_scene.specs.Terms.{replications_at}
use Rattle.cv_derive_laws.specs.reached.Copies.{AreReached, AreReachedInPairs, HoldInPairs, IsAbove, both_copies}
use Rattle.cv_derive_laws.specs.reached.Fine.{IsFineTerm}
use Rattle.cv_derive_laws.specs.stores.Holding.{IsReady}
use Rattle.cv_derive_laws.specs.stores.Truth.{AreApart, AreTrue}
use Rattle.cv_query_certificates.specs.Marks.{raise_of}
use Rattle.cv_query_certificates.specs.PairParts.{saying}
use Rattle.cv_query_certificates.specs.Pairs.{equations_between}
use Rattle.cv_query_certificates.specs.SecretPairs.{AreSecretPairs, Copy, copies_in, ends_secret, needed_secrets}
use Rattle.cv_query_secrets.proofs.sessions.Exchange.{AreOneToOne}
use Rattle.cv_query_secrets.proofs.sessions.Links.{IsCopiedAt, copied_at, drawn_by, pairs_of}
use Rattle.cv_query_secrets.proofs.sessions.Needed.{AreCopiesIn, IsDrawnAs, IsProved, among, copied_in_game, copy_from, drawn_as, index_list, needed_of, proved_in, visits_copy}
use Rattle.cv_query_secrets.proofs.sessions.Copied.{IsCopyAt, copy_settled, copy_stands, fine, one_shape}
use Rattle.cv_query_secrets.proofs.sessions.Truths.{HasFirst, HasSecond, equal_indices, given_true, no_is_false, said}

-- a variable's cell is made by one visit
one_visit : (vs : List Visit) → Pairs MakeApart vs → (x m n : ℕ) (v w : Visit) → StandsAt vs m v → StandsAt vs n w → made_at v.tree (Variable x) ≡ true → made_at w.tree (Variable x) ≡ true → tuple v.before.indices ≡ tuple w.before.indices → v ≡ w
one_visit [] h x m n v w k l a b e = absurd (none_some v k)
one_visit (z ∷ vs) h x zero zero v w k l a b e = some_injective (sym k ∙ l)
one_visit (z ∷ vs) h x zero (suc n) v w k l a b e =
    let same : z ≡ v = some_injective k in
    absurd (AllByRecursion_slice_get (MakeApart z) vs h.0 n w l (Variable x) (ap (λ (y : Visit). made_at y.tree (Variable x)) same ∙ a) b (ap (λ (y : Visit). tuple y.before.indices) same ∙ e))
one_visit (z ∷ vs) h x (suc m) zero v w k l a b e =
    let same : z ≡ w = some_injective l in
    absurd (AllByRecursion_slice_get (MakeApart z) vs h.0 m v k (Variable x) (ap (λ (y : Visit). made_at y.tree (Variable x)) same ∙ b) a (ap (λ (y : Visit). tuple y.before.indices) same ∙ sym e))
one_visit (z ∷ vs) h x (suc m) (suc n) v w k l a b e = one_visit vs h.1 x m n v w k l a b e

one_draw : (g : Setting) (x : ℕ) (vs : List Visit) → Pairs MakeApart vs → (u : List ℕ) (d e : Cell) → IsCopiedAt g x vs (u, d) → IsCopiedAt g x vs (u, e) → d ≡ e
one_draw g x vs h u d e k l =
    let made : (c : Cell) (z : IsCopiedAt g x vs (u, c)) → made_at z.visit.tree (Variable x) ≡ true = λ c z. ap (λ t. made_at t (Variable x)) z.tree ∙ eq-eqb x x refl in
    let same : k.visit ≡ l.visit = one_visit vs h x k.number l.number k.visit l.visit k.stands l.stands (made d k) (made e l) (k.copy ∙ sym l.copy) in
    let trees : Node (Let x k.type) k.term k.next ≡ Node (Let x l.type) l.term l.next = sym k.tree ∙ ap (λ (v : Visit). v.tree) same ∙ l.tree in
    let term : k.term ≡ l.term = cc in
    some_injective (sym k.cell ∙ (λ j. drawn_by g (term j) (same j).before) ∙ l.cell)

-- the values of terms where two copies are reached
pub record HaveValues (s : Scene) (i : Interpretation) (p q k : ℕ) (at other : Indices) (y : Memory) : Type 0 where
  pub of_first :
      (term : Tree) → IsFineTerm s.declarations s.game (replications_at s p) term
      → value (setting_of s.declarations i) (both_copies k at other) y.store term ≡ value (setting_of s.declarations i) at y.store term
  pub of_second :
      (term : Tree) → IsFineTerm s.declarations s.game (replications_at s q) term
      → value (setting_of s.declarations i) (both_copies k at other) y.store (of_second k (replications_at s q) term) ≡ value (setting_of s.declarations i) other y.store term
  pub first_indices :
      AllByRecursion (λ (r : ℕ × ℕ). found_in at r.0 ≡ Some r.1) at
      → values (setting_of s.declarations i) (both_copies k at other) y.store (chain (map index_term (replications_at s p))) ≡ tuple at
  pub second_indices : values (setting_of s.declarations i) (both_copies k at other) y.store (chain (map index_term (second_indices k (replications_at s q)))) ≡ tuple other

none_apart : (m n : Store) → AreApart [] m n
none_apart m n x u v e = absurd (both_ways false refl e)

module _ (s : Scene) (x : ℕ) (parts : Tree) (ready : IsReady s.declarations s.game) (proved : AreSecretPairs s x parts) (i : Interpretation) (m : Mode) (a : Adversary) (t : Tape) where
  abbrev g : Setting
  g = setting_of s.declarations i

  abbrev vs : List Visit
  vs = visits_of_run g m a s.game t

  abbrev last : State
  last = run g m a s.game t

  abbrev k : ℕ
  k = raise_of s parts

  all_hold : AllByRecursion (VisitHolds g (is_variable s.game) s.game (fine s ready i)) vs
  unfolding visits_of_run
  all_hold = (game_holds g (is_variable s.game) s.game (fine s ready i) m (a.next (coins_on t 0 a.coins)) t a.moves).passes.visits

  all_grow : AllByRecursion (λ (v : Visit). GrowsTo v.before.memory last.memory) vs
  unfolding run visits_of_run
  all_grow = (game_holds g (is_variable s.game) s.game (fine s ready i) m (a.next (coins_on t 0 a.coins)) t a.moves).passes.before

  module _ (above : (place : ℕ) → IsAbove s place k) (reached : AreReachedInPairs s i last.memory vs) (hold : HoldInPairs s i last.memory vs)
      (have : (p q : ℕ) (at other : Indices) → AreReached s i p q k at other last.memory → HaveValues s i p q k at other last.memory) (made : Pairs MakeApart vs) where
    abbrev CopyOf : List ℕ → Cell → Type 0
    CopyOf u d = IsCopiedAt g x vs (u, d)

    counts : (u : List ℕ) (d : Cell) (c : CopyOf u d) → IsSyntax c.visit.tree
    counts u d c = subst IsSyntax (sym c.tree) refl

    there : (u : List ℕ) (d : Cell) (c : CopyOf u d) → IsCopyAt s ready i c.visit x c.type c.term c.next
    there u d c = copy_stands s ready i c.visit x c.type c.term c.next c.tree (AllByRecursion_slice_get (VisitHolds g (is_variable s.game) s.game (fine s ready i)) vs all_hold c.number c.visit c.stands)

    drawn : (u : List ℕ) (d : Cell) (c : CopyOf u d) → IsDrawnAs g c.visit.place c.term c.visit.before d
    drawn u d c = drawn_as g c.visit.place c.term c.visit.before d c.cell

    copy : (u : List ℕ) (d : Cell) (c : CopyOf u d) → Copy
    copy u d c = copy_from c.visit.place (drawn u d c).source c.term

    copy_listed : (u : List ℕ) (d : Cell) (c : CopyOf u d) → Has (copies_in x 0 s.game) (copy u d c)
    unfolding copy
    copy_listed u d c =
        copied_in_game s.game x c.visit.place c.type c.term c.next (copy u d c)
        (subst (AreCopiesIn s.game x c.visit.place) c.tree (AllByRecursion_slice_get (VisitHas (AreCopiesIn s.game x)) vs (visits_copy g m a s.game t x) c.number c.visit c.stands)) (drawn u d c).copy

    abbrev IsSettledIn : Visit → Tree → Type 0
    IsSettledIn v t = IsFineTerm s.declarations s.game (replications_at s v.place) t × (value g v.before.indices last.memory.store t ≡ value g v.before.indices v.before.memory.store t)

    settled : (u : List ℕ) (d : Cell) (c : CopyOf u d) → AllByRecursion (IsSettledIn c.visit) (items (index_list c.term))
    settled u d c =
        copy_settled s ready i c.visit x c.type c.term c.next (there u d c) last.memory.store (AllByRecursion_slice_get (λ (v : Visit). GrowsTo v.before.memory last.memory) vs all_grow c.number c.visit c.stands).store

    -- two copies of one draw

    same_source : (y z : ℕ) (us ws : List ℕ) → New_at y us ≡ New_at z ws → (y ≡ z) × (us ≡ ws)
    same_source y z us ws e = let n : y ≡ z = cc in let l : us ≡ ws = cc in (n, l)

    module _ (u w : List ℕ) (d : Cell) (b : CopyOf u d) (c : CopyOf w d) where
      abbrev p : ℕ
      p = b.visit.place

      abbrev q : ℕ
      q = c.visit.place

      abbrev at : Indices
      at = b.visit.before.indices

      abbrev other : Indices
      other = c.visit.before.indices

      abbrev both : Indices
      both = both_copies k at other

      abbrev end : Store
      end = last.memory.store

      are_reached : AreReached s i p q k at other last.memory
      are_reached = reached b.number c.number b.visit c.visit b.stands c.stands (counts u d b) (counts w d c) k (above p)

      found : AllByRecursion (λ (r : ℕ × ℕ). found_in at r.0 ≡ Some r.1) at
      found = (reached c.number b.number c.visit b.visit c.stands b.stands (counts w d c) (counts u d b) k (above q)).found

      values_there : HaveValues s i p q k at other last.memory
      values_there = have p q at other are_reached

      sources : ((drawn u d b).source ≡ (drawn w d c).source) × (values_here g b.visit.before (index_list b.term) ≡ values_here g c.visit.before (index_list c.term))
      sources =
          same_source (drawn u d b).source (drawn w d c).source (values_here g b.visit.before (index_list b.term)) (values_here g c.visit.before (index_list c.term)) (sym (drawn u d b).cell ∙ (drawn w d c).cell)

      firsts : (ts : List Tree) → AllByRecursion (IsSettledIn b.visit) ts → AllByRecursion (HasFirst g both end at b.visit.before.memory.store) ts
      firsts [] h = tt
      firsts (t ∷ ts) h = (values_there.of_first t h.0.0 ∙ h.0.1, firsts ts h.1)

      seconds : (ts : List Tree) → AllByRecursion (IsSettledIn c.visit) ts → AllByRecursion (HasSecond g both end k (replications_at s q) other c.visit.before.memory.store) ts
      seconds [] h = tt
      seconds (t ∷ ts) h = (values_there.of_second t h.0.0 ∙ h.0.1, seconds ts h.1)

      abbrev given : List Tree
      given = equations_between (items (index_list b.term)) (all_of_second k (replications_at s q) (items (index_list c.term)))

      given_holds : AreTrue g both end end given
      given_holds =
          given_true g both end k (replications_at s q) at other b.visit.before.memory.store c.visit.before.memory.store (index_list b.term) (index_list c.term)
          (firsts (items (index_list b.term)) (settled u d b)) (seconds (items (index_list c.term)) (settled w d c)) sources.1

      -- what a right derivation says is true
      told : (by : Tree) → first_bad_line (pair_at s p q k given []) by ≡ None → (ts : List Tree) → ends_with by (saying ts) ≡ true → AreTrue g both end end ts
      told by e ts f =
          said g both end end ts
          (hold b.number c.number b.visit c.visit b.stands c.stands (counts u d b) (counts w d c) k (above p) given [] given_holds (none_apart end end) by (saying ts) (record { right = e; end = f }))

      same_indices : AreTrue g both end end (equations_between (map index_term (replications_at s p)) (map index_term (second_indices k (replications_at s q)))) → tuple at ≡ tuple other
      same_indices h =
          let shape : replications_at s q ≡ replications_at s p = sym (one_shape s ready i b.visit c.visit x b.type c.type b.term b.next c.term c.next (there u d b) (there w d c)) in
          sym (values_there.first_indices found)
          ∙ equal_indices g both end k (replications_at s p) (subst (λ rs. AreTrue g both end end (equations_between (map index_term (replications_at s p)) (map index_term (second_indices k rs)))) shape h)
          ∙ ap (λ rs. values g both end (chain (map index_term (second_indices k rs)))) (sym shape) ∙ values_there.second_indices

      by_end : (by : Tree) → first_bad_line (pair_at s p q k given []) by ≡ None → ends_secret s k p q by ≡ true → tuple at ≡ tuple other
      by_end by e f =
          go (or_cases (ends_with by (saying (equations_between (map index_term (replications_at s p)) (map index_term (second_indices k (replications_at s q)))))) (ends_with by (saying (no ∷ [])) || false) f)
        where
          never : (ends_with by (saying (no ∷ [])) ≡ true) ⊎ (false ≡ true) → tuple at ≡ tuple other
          never (inl z) = absurd (no_is_false g both end end (told by e (no ∷ []) z))
          never (inr z) = absurd (both_ways false refl z)

          go : (ends_with by (saying (equations_between (map index_term (replications_at s p)) (map index_term (second_indices k (replications_at s q))))) ≡ true) ⊎ ((ends_with by (saying (no ∷ [])) || false) ≡ true) → tuple at ≡ tuple other
          go (inl z) = same_indices (told by e (equations_between (map index_term (replications_at s p)) (map index_term (second_indices k (replications_at s q)))) z)
          go (inr z) = never (or_cases (ends_with by (saying (no ∷ []))) false z)

      by_pair : IsProved s k (needed_of s k (copy u d b) (copy w d c)) → u ≡ w
      unfolding copy
      by_pair r =
          let e = and_parts (not (is_some (first_bad_line (pair_at s p q k given []) r.by))) (ends_secret s k p q r.by) r.proves in
          sym b.copy ∙ by_end r.by (none_from_not_some (first_bad_line (pair_at s p q k given []) r.by) e.0) e.1 ∙ c.copy

    one_test : (u w : List ℕ) (d : Cell) → CopyOf u d → CopyOf w d → u ≡ w
    unfolding copy
    one_test u w d b c =
        go (among s k (copies_in x 0 s.game) (copy u d b) (copy w d c) (sources u w d b c).0 (copy_listed u d b) (copy_listed w d c))
      where
        go : Has (needed_secrets s k x) (needed_of s k (copy u d b) (copy w d c)) ⊎ Has (needed_secrets s k x) (needed_of s k (copy w d c) (copy u d b)) → u ≡ w
        go (inl z) = by_pair u w d b c (proved_in s k (needed_secrets s k x) parts proved (needed_of s k (copy u d b) (copy w d c)) z)
        go (inr z) = sym (by_pair w u d c b (proved_in s k (needed_secrets s k x) parts proved (needed_of s k (copy w d c) (copy u d b)) z))

    pub one_to_one : AreOneToOne (pairs_of g x vs)
    one_to_one = record {
      draw = λ w d e j l. one_draw g x vs made w d e (copied_at g x vs (w, d) j) (copied_at g x vs (w, e) l);
      test = λ w v d j l. one_test w v d (copied_at g x vs (w, d) j) (copied_at g x vs (v, d) l);
    }
