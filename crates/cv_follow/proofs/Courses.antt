-- Courses with a step more, and what is put of them.
use Rattle.std.proofs.Common.{◌≡◌, ℕ, Bool, List, [], ◌∷◌, ◌++◌, length, map, Option, refl, ap, ap₂, sym, ◌∙◌, subst}
use Rattle.std.proofs.lemmas.List.{length-map}
use Rattle.cv_costs.specs.Factors.{parameters_in}
use Rattle.cv_kernel.specs.Drawings.{Draws, DrawsAlong, game_after, told}
use Rattle.cv_kernel.specs.Proofs.{Transition}
use Rattle.cv_kernel.proofs.Drawn.{last_told}
use Rattle.cv_report.specs.Lines.{Leg, Lines, with_leg}
use Rattle.cv_report.specs.Streams.{PutsLeg}
use Rattle.cv_report.specs.declared.stream.Stream.{Stream}
use Rattle.cv_script.specs.Views.{items_of_step}
use Rattle.cv_steps.specs.Sequences.{scene}
use Rattle.cv_syntax.specs.declared.work.Work.{Work}
use Rattle.cv_syntax_trees.specs.Declarations.{Declaration}
use Rattle.cv_syntax_trees.specs.Tree.{Tree}
use Rattle.cv_follow.specs.Courses.{Course, DrawsThrough, PutsNothing, PutsOn, Table, leg_of, legs_of, lines_in, names_behind}

-- tables with one more

pub names_put : (names after : Table) (tables : List Table) → names_behind names (tables ++ after ∷ []) ≡ after
unfolding names_behind
names_put names after [] = refl
names_put names after (table ∷ tables) = names_put table after tables

legs_put : (ts : List Transition) (t : Transition) (tables : List Table) (names : Table) → length ts ≡ length tables → legs_of (ts ++ t ∷ []) (tables ++ names ∷ []) ≡ legs_of ts tables ++ leg_of t names ∷ []
unfolding legs_of
legs_put [] t [] names e = refl
legs_put [] t (x ∷ tables) names e = absurd (cc)
legs_put (u ∷ ts) t [] names e = absurd (cc)
legs_put (u ∷ ts) t (x ∷ tables) names e = ap (λ ls. leg_of u x ∷ ls) (legs_put ts t tables names (cc))

-- the names that are drawn

module _ (found : Bool) (ds : List Declaration) (known : ℕ → Bool) (own : ℕ) where
  pub through_put : (game : Tree) (ts : List (Tree × Option Tree)) (t : Tree × Option Tree) (a c : Table) (tables : List Table) → DrawsThrough found ds known own game ts a tables
      → Draws found (names_behind a tables) c own (scene ds known (last_told game ts)) (items_of_step t.0) (game_after t.1 (last_told game ts)) → DrawsThrough found ds known own game (ts ++ t ∷ []) a (tables ++ c ∷ [])
  unfolding names_behind
  through_put game [] t a c [] h d = (d, tt)
  through_put game [] t a c (x ∷ tables) h d = absurd h
  through_put game (u ∷ ts) t a c [] h d = absurd h
  through_put game (u ∷ ts) t a c (x ∷ tables) h d = (h.0, through_put (game_after u.1 game) ts t x c tables h.1 d)

  -- there are as many tables as steps
  as_many : (game : Tree) (ts : List (Tree × Option Tree)) (a : Table) (tables : List Table) → DrawsThrough found ds known own game ts a tables → length ts ≡ length tables
  as_many game [] a [] h = refl
  as_many game [] a (x ∷ tables) h = absurd h
  as_many game (u ∷ ts) a [] h = absurd h
  as_many game (u ∷ ts) a (x ∷ tables) h = let e = as_many (game_after u.1 game) ts x tables h.1 in cc

  pub as_many_tables : (game : Tree) (ts : List Transition) (a : Table) (tables : List Table) → DrawsThrough found ds known own game (map told ts) a tables → length ts ≡ length tables
  as_many_tables game ts a tables h = sym (length-map ts told) ∙ as_many game (map told ts) a tables h

-- The names that are drawn through tables are drawn along the steps, to the last of them.
pub drawn_along : (found : Bool) (ds : List Declaration) (known : ℕ → Bool) (own : ℕ) (game : Tree) (ts : List (Tree × Option Tree)) (names : Table) (tables : List Table) → DrawsThrough found ds known own game ts names tables → DrawsAlong found ds known own game ts names (names_behind names tables)
unfolding names_behind
drawn_along found ds known own game [] names [] h = refl
drawn_along found ds known own game [] names (x ∷ tables) h = absurd h
drawn_along found ds known own game (t ∷ ts) names [] h = absurd h
drawn_along found ds known own game (t ∷ ts) names (x ∷ tables) h = (x, h.0, drawn_along found ds known own (game_after t.1 game) ts x tables h.1)

-- the lines of a course with a step more

pub lines_put : (start : Work) (first : Tree) (c d : Course) (t : Transition) (names : Table) → length c.proof ≡ length c.tables → d.proof ≡ c.proof ++ t ∷ [] → d.tables ≡ c.tables ++ names ∷ [] → with_leg (lines_in start first c) (leg_of t names) ≡ lines_in start first d
lines_put start first c d t names e p q =
    ap (λ (ls : List Leg). record { names = start.names; game = first; order = parameters_in start.decls.list; legs = ls }) (sym (ap₂ legs_of p q ∙ legs_put c.proof t c.tables names e))

pub lines_same : (start : Work) (first : Tree) (c d : Course) → d.proof ≡ c.proof → d.tables ≡ c.tables → lines_in start first c ≡ lines_in start first d
lines_same start first c d p q =
    ap (λ (ls : List Leg). record { names = start.names; game = first; order = parameters_in start.decls.list; legs = ls }) (sym (ap₂ legs_of p q))

-- lines are put behind others

pub puts_then : (t0 t1 t2 : Option (List ℕ)) (f0 f1 f2 : ℕ) (l m n : Lines) (a b c : Stream) → PutsOn t0 t1 f0 f1 l m a b → PutsOn t1 t2 f1 f2 m n b c → PutsOn t0 t2 f0 f2 l n a c
puts_then t0 t1 t2 f0 f1 f2 l m n a b c p q = λ shows before old w. q shows before old (p shows before old w)

pub puts_leg : (t0 t1 t2 : Option (List ℕ)) (f0 f1 f2 : ℕ) (l m n : Lines) (e : Leg) (a b c : Stream) → with_leg m e ≡ n → PutsOn t0 t1 f0 f1 l m a b → PutsLeg t1 t2 f1 f2 e b c → PutsOn t0 t2 f0 f2 l n a c
puts_leg t0 t1 t2 f0 f1 f2 l m n e a b c i p q =
    subst (λ k. PutsOn t0 t2 f0 f2 l k a c) i (λ shows before old w. q shows m before old (p shows before old w))

pub puts_nothing : (t0 t1 t2 : Option (List ℕ)) (f0 f1 f2 : ℕ) (l m n : Lines) (a b c : Stream) → m ≡ n → PutsOn t0 t1 f0 f1 l m a b → PutsNothing t1 t2 f1 f2 b c → PutsOn t0 t2 f0 f2 l n a c
puts_nothing t0 t1 t2 f0 f1 f2 l m n a b c i p q =
    subst (λ k. PutsOn t0 t2 f0 f2 l k a c) i
    (subst (λ x. PutsOn t0 t2 f0 f2 l m a x) (sym q.0) (subst (λ x. PutsOn t0 x f0 f2 l m a b) (sym q.1) (subst (λ x. PutsOn t0 t1 f0 x l m a b) (sym q.2) p)))
