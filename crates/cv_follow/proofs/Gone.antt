-- What was gone through so far, with a step more, in another work, and where memory runs out.
use Rattle.std.proofs.Common.{◌≡◌, ℕ, ◌+◌, ◌<◌, ◌≤◌, Bool, List, [], ◌∷◌, ◌++◌, length, take, take-take, refl, ap, sym, ◌∙◌, subst, Option, Some, None, Ok, inl, inr}
use Rattle.std.specs.Prelude.{All}
use Rattle.cv_accept.proofs.Blocks.{declarations_grown}
use Rattle.cv_kernel.specs.Closings.{closing_in}
use Rattle.cv_rule_array_names.specs.Drawings.{DrawsBefore}
use Rattle.cv_kernel.specs.Keeping.{StaysUpTo}
use Rattle.cv_kernel.specs.Proofs.{IsProof, Transition, game_behind, nodes_along}
use Rattle.cv_kernel.specs.Reducings.{reducing_in}
use Rattle.cv_kernel.specs.Sequences.{IsPushed, game_in, needed_for}
use Rattle.cv_kernel.specs.declared.reducing.Reducing.{Reducing}
use Rattle.cv_kernel.specs.declared.sequence.Sequence.{Sequence}
use Rattle.cv_kernel_crypto.specs.Applied.{DrawsNext}
use Rattle.cv_parse.specs.Declaring.{IsBelow}
use Rattle.cv_pool.proofs.Growth.{Grows_trans}
use Rattle.cv_pool.specs.PoolView.{PoolView, Grows}
use Rattle.cv_report.specs.Lines.{Leg, Lines, with_leg}
use Rattle.cv_report.specs.declared.stream.Stream.{Stream}
use Rattle.cv_scene_view.specs.Kept.{scene_of}
use Rattle.cv_script.specs.Views.{items_of_step}
use Rattle.cv_syntax.specs.Classes.{DeclsView}
use Rattle.cv_syntax.specs.declared.work.Work.{Work}
use Rattle.cv_syntax.specs.Declarations.{declarations}
use Rattle.cv_syntax_trees.specs.Declarations.{Declaration}
use Rattle.cv_syntax_trees.specs.Tree.{Tree}
use Rattle.cv_follow.specs.Courses.{Course, IsCourse, IsLegOf, IsReached, PutsOn, PutsSome, Table, leg_of, lines_in}
use Rattle.cv_kernel.specs.Followed.{known_to}
use Rattle.cv_follow.specs.Searches.{HasGrown}
use Rattle.cv_follow.specs.Walks.{HasGone, course_of}
use Rattle.cv_follow.proofs.Courses.{as_many_tables, names_put, puts_leg, puts_nothing}
use Rattle.cv_follow.proofs.Drawing.{drawn_more}
use Rattle.cv_kernel.proofs.Followed.{followed_more}
use Rattle.cv_rule_array_names.proofs.NamesKept.{names_kept}

-- a step more

module _ {free : Bool} {before : ℕ} (start old new : Work) (first : Tree) (below : All (IsBelow (length start.pool.trees)) start.decls.list) {front : List Tree} (s t : Sequence) (h : HasGone free before start old first front s) where
  abbrev ds : List Declaration
  ds = declarations start.pool.trees start.decls.list

  pub is_ds : declarations old.pool.trees old.decls.list ≡ declarations start.pool.trees start.decls.list
  is_ds = ap (λ (v : DeclsView). declarations old.pool.trees v.list) h.decls ∙ declarations_grown start.pool old.pool start.decls.list h.grows below

  pub is_own : old.decls.own ≡ start.decls.own
  is_own = ap (λ (v : DeclsView). v.own) h.decls

  -- what was gone through, with a step of this tree more, and what the sequence tells of it
  pub record GoneMore (tree : Tree) : Type 0 where
    pub step : Transition
    pub taken : step.step ≡ tree
    pub gone : HasGone free before start new first (front ++ tree ∷ []) t
    pub proof : gone.followed.proof ≡ h.followed.proof ++ step ∷ []
    pub tables : gone.tables ≡ h.tables ++ new.names ∷ []
    pub leg : IsLegOf new.names new.pool.trees t step.step (leg_of step new.names)

  pub gone_more : (tree : Tree) (u : Unit {0}) → s.game.root.0 < length old.pool.trees → IsPushed old.pool old.decls new.pool.trees s t tree (Ok u) → Grows old.pool new.pool
      → length new.pool.trees ≤ length old.pool.trees + needed_for (scene_of old.pool old.decls s.game.root) tree (game_in new.pool.trees t) (items_of_step tree) → take (length old.names) new.names ≡ old.names → new.decls ≡ old.decls
      → (mid : Table) → DrawsBefore free old.names mid old.decls.own (game_in old.pool.trees s) (items_of_step tree) → ((r : Reducing) → reducing_in tree ≡ Some r → DrawsNext mid new.names old.decls.own (scene_of old.pool old.decls s.game.root) r.equivalence r.key (game_in new.pool.trees t)) → (reducing_in tree ≡ None → new.names ≡ mid)
      → GoneMore tree
  gone_more tree u here p g few names decls mid ready draws alone =
      let own : ℕ = start.decls.own in
      let m = followed_more before ds own first old.pool new.pool old.decls is_ds is_own front s t tree u h.followed p g here few in
      record {
        step = m.step;
        taken = m.taken;
        gone = record {
          followed = m.next;
          tables = h.tables ++ new.names ∷ [];
          drawn = drawn_more free before ds own first old.pool new.pool old.decls is_ds is_own front s t tree start.names mid new.names h.tables h.followed m draws alone
              (subst (λ (ns : Table). DrawsBefore free ns mid old.decls.own (game_in old.pool.trees s) (items_of_step tree)) h.last ready) h.drawn;
          last = sym (names_put start.names new.names h.tables);
          grows = Grows_trans start.pool old.pool new.pool h.grows g;
          names = names_kept start.names old.names new.names h.names names;
          decls = decls ∙ h.decls;
        };
        proof = m.proof;
        tables = refl;
        leg = record {
          names = refl;
          step = refl;
          cost = m.cost;
          context = m.context;
          next = ap (game_behind (closing_in m.step.step)) m.leads;
        };
      }

-- The same was gone through in another work, where the sequence tells the same.

pub record AreAlike (start old new : Work) (s t : Sequence) : Type 0 where
  pub grows : Grows start.pool new.pool
  pub game : game_in new.pool.trees t ≡ game_in old.pool.trees s
  pub steps : t.steps ≡ s.steps
  pub sum : t.sum ≡ s.sum
  pub closed : t.closed ≡ s.closed
  pub names : new.names ≡ old.names
  pub decls : new.decls ≡ old.decls

pub record GoneAgain (free : Bool) (before : ℕ) (start new : Work) (first : Tree) (front : List Tree) (t : Sequence) (ts : List Transition) (ns : List Table) : Type 0 where
  pub gone : HasGone free before start new first front t
  pub proof : gone.followed.proof ≡ ts
  pub tables : gone.tables ≡ ns

pub gone_alike : {free : Bool} {before : ℕ} (after : ℕ) (start old new : Work) (first : Tree) {front : List Tree} (s t : Sequence) (h : HasGone free before start old first front s) → AreAlike start old new s t
    → length new.pool.trees ≤ after + nodes_along (declarations start.pool.trees start.decls.list) (known_to start.decls.own) first h.followed.proof → GoneAgain free after start new first front t h.followed.proof h.tables
gone_alike after start old new first s t h a few = record {
  gone = record {
    followed = record {
      proof = h.followed.proof;
      steps = h.followed.steps;
      leads = subst (IsProof (declarations start.pool.trees start.decls.list) (known_to start.decls.own) first h.followed.proof) (sym a.game) h.followed.leads;
      count = a.steps ∙ h.followed.count;
      sum = a.sum ∙ h.followed.sum;
      closed = a.closed ∙ h.followed.closed;
      nodes = few;
    };
    tables = h.tables;
    drawn = h.drawn;
    last = a.names ∙ h.last;
    grows = a.grows;
    names = ap (take (length start.names)) a.names ∙ h.names;
    decls = a.decls ∙ h.decls;
  };
  proof = refl;
  tables = refl;
}

-- what stands up to a mark stays where games are given back
pub grows_kept : (mark : ℕ) (start old new : PoolView) → Grows start old → length start.trees ≤ mark → StaysUpTo mark old new → Grows start new
grows_kept mark start old new g l s = record {
  kept = sym (take-take (length start.trees) mark new.trees l) ∙ (ap (take (length start.trees)) s.kept ∙ (take-take (length start.trees) mark old.trees l ∙ g.kept));
  limit = s.limit ∙ g.limit;
}

-- the steps that were gone through are a course, with as many tables

module _ {free : Bool} {before : ℕ} (start now : Work) (first : Tree) {front : List Tree} (s : Sequence) (h : HasGone free before start now first front s) where
  pub course_is : IsCourse free (declarations start.pool.trees start.decls.list) start.decls.own first start.names (course_of h)
  course_is = record { leads = h.followed.leads; drawn = h.drawn }

  pub tables_many : length h.followed.proof ≡ length h.tables
  tables_many = as_many_tables free (declarations start.pool.trees start.decls.list) (known_to start.decls.own) start.decls.own first h.followed.proof start.names h.tables h.drawn

  -- it is what was reached where memory runs out behind it
  pub reached_so_far : (new : Work) (Puts : Course → Type 0) → HasGrown now new → Puts (course_of h) → IsReached free start new first Puts
  reached_so_far new Puts g p = record {
    course = course_of h;
    is = course_is;
    grows = Grows_trans start.pool now.pool new.pool h.grows g.grows;
    names = names_kept start.names now.names new.names h.names g.names;
    decls = g.decls ∙ h.decls;
    puts = p;
  }

-- Memory ran out when the lines of the last step were to be put, or behind them.
module _ {free : Bool} (start new : Work) (first : Tree) (c d : Course) (c_is : IsCourse free (declarations start.pool.trees start.decls.list) start.decls.own first start.names c) (d_is : IsCourse free (declarations start.pool.trees start.decls.list) start.decls.own first start.names d)
    (grows : Grows start.pool new.pool) (names : take (length start.names) new.names ≡ start.names) (decls : new.decls ≡ start.decls) where
  pub reached_cut : (e : Leg) (t0 t1 t2 : Option (List ℕ)) (f0 f1 f2 : ℕ) (l : Lines) (x y z : Stream) → with_leg (lines_in start first c) e ≡ lines_in start first d → PutsOn t0 t1 f0 f1 l (lines_in start first c) x y → PutsSome t1 t2 f1 f2 e y z → IsReached free start new first (λ k. PutsOn t0 t2 f0 f2 l (lines_in start first k) x z)
  reached_cut e t0 t1 t2 f0 f1 f2 l x y z i p (inl q) =
      record { course = d; is = d_is; grows = grows; names = names; decls = decls; puts = puts_leg t0 t1 t2 f0 f1 f2 l (lines_in start first c) (lines_in start first d) e x y z i p q }
  reached_cut e t0 t1 t2 f0 f1 f2 l x y z i p (inr q) =
      record { course = c; is = c_is; grows = grows; names = names; decls = decls; puts = puts_nothing t0 t1 t2 f0 f1 f2 l (lines_in start first c) (lines_in start first c) x y z refl p q }
