-- Steps that are tried.
use Rattle.std.proofs.Common.{◌≡◌, ℕ, suc, ◌+◌, ◌<◌, ◌≤◌, Bool, List, [], ◌∷◌, ◌++◌, length, length-append, take, refl, ap, sym, ◌∙◌, subst, arith, Some, None, Ok, Err}
use Rattle.std.proofs.lemmas.List.{length-map, length-take-le, take_all}
use Rattle.std.specs.Prelude.{All, option_map}
use Rattle.cv_accept.proofs.Blocks.{below_grown, declarations_grown, root_grown}
use Rattle.cv_accept.specs.Accepted.{most_pool}
use Rattle.cv_bound.specs.closings.Queries.{numbers_of}
use Rattle.cv_bound.specs.costs.Sums.{SumsFit, no_sums}
use Rattle.cv_bound.specs.declared.costs.sums.Sums.{Sums}
use Rattle.cv_context.specs.products.ShapesInCode.{shape_in}
use Rattle.cv_kernel.specs.Closings.{closing_in}
use Rattle.cv_rule_array_names.specs.Drawings.{DrawsBefore}
use Rattle.cv_kernel.specs.Keeping.{StaysUpTo}
use Rattle.cv_kernel.specs.Proofs.{Transition, closed_by, game_behind}
use Rattle.cv_kernel.specs.Reducings.{reducing_in}
use Rattle.cv_kernel.specs.Sequences.{AreModest, IsPushed, Same, Stands, game_in, needed_for}
use Rattle.cv_kernel.specs.declared.error.PushError.{PushError}
use Rattle.cv_kernel.specs.declared.reducing.Reducing.{Reducing}
use Rattle.cv_kernel.specs.declared.sequence.Sequence.{Sequence}
use Rattle.cv_kernel.proofs.Marks.{declarations_stay}
use Rattle.cv_kernel_crypto.specs.Applied.{DrawsNext, HasEquivalences}
use Rattle.cv_parse.specs.Declaring.{IsBelow}
use Rattle.cv_pool.proofs.Growth.{Grows_length, Grows_refl, Grows_same, Grows_trans}
use Rattle.cv_pool.specs.KindTree.{KindTree}
use Rattle.cv_pool.specs.PoolView.{PoolView, Grows}
use Rattle.cv_pool.specs.declared.node.NodeId.{NodeId}
use Rattle.cv_report.specs.declared.report.Status.{Status}
use Rattle.cv_scene_view.specs.Kept.{scene_of}
use Rattle.cv_scope_rules.specs.Phrases.{IsWellFormed}
use Rattle.cv_script.specs.Views.{items_of_step}
use Rattle.cv_steps.specs.Sequences.{scene}
use Rattle.cv_syntax.specs.Classes.{DeclsView}
use Rattle.cv_syntax.specs.declared.work.Game.{Game}
use Rattle.cv_syntax.specs.declared.work.Work.{Work}
use Rattle.cv_syntax.specs.Declarations.{declarations}
use Rattle.cv_syntax.specs.limits.Limits.{most_nodes}
use Rattle.cv_syntax.specs.PoolTrees.{tree_at}
use Rattle.cv_syntax_trees.specs.Declarations.{Declaration}
use Rattle.cv_syntax_trees.specs.Tree.{Tree, size}
use Rattle.cv_follow.specs.Courses.{Table, names_behind}
use Rattle.cv_follow.specs.Scripts.{Stops}
use Rattle.cv_kernel.specs.Followed.{known_to}
use Rattle.cv_follow.specs.Searches.{HasFound, IsGivenBack, IsKept, IsMore, MayTry}
use Rattle.cv_follow.specs.Walks.{stop_of}
use Rattle.cv_kernel.proofs.Closings.{numbers_same}
use Rattle.cv_follow.proofs.Following.{equivalences_kept, equivalences_stay, on_none, stops_at}
use Rattle.cv_kernel.proofs.Followed.{followed_none}
use Rattle.cv_follow.proofs.Gone.{AreAlike, gone_alike, gone_more, grows_kept, is_ds, is_own}

pub same_both : (s t u : Sequence) → Same s t → Same t u → Same s u
same_both s t u a b = record {
  game = b.game ∙ a.game;
  steps = b.steps ∙ a.steps;
  cost = b.cost ∙ a.cost;
  sum = b.sum ∙ a.sum;
  context = b.context ∙ a.context;
  closed = b.closed ∙ a.closed;
}

pub kept_both : (a b c : Work) (s t u : Sequence) → IsKept a b s t → IsKept b c t u → IsKept a c s u
kept_both a b c s t u k l = record {
  grows = Grows_trans a.pool b.pool c.pool k.grows l.grows;
  names = l.names ∙ k.names;
  decls = l.decls ∙ k.decls;
  sequence = same_both s t u k.sequence l.sequence;
  empty = l.empty;
}

-- a pool alone has grown
pub kept_by : (old new : Work) (s : Sequence) → s.arrays ≡ None → Grows old.pool new.pool → new.names ≡ old.names → new.decls ≡ old.decls → IsKept old new s s
kept_by old new s empty g n d = record {
  grows = g;
  names = n;
  decls = d;
  sequence = record { game = refl; steps = refl; cost = refl; sum = refl; context = refl; closed = refl };
  empty = empty;
}

pub kept_none : (w : Work) (s : Sequence) → s.arrays ≡ None → IsKept w w s s
kept_none w s empty = kept_by w w s empty (Grows_refl w.pool) refl refl

-- a pool that went back is as it was

pub trees_back : (old mid : PoolView) (trees : List KindTree) (n : ℕ) → Grows old mid → n ≡ length old.trees → trees ≡ take n mid.trees → trees ≡ old.trees
trees_back old mid trees n g e r = r ∙ (ap (λ k. take k mid.trees) e ∙ g.kept)

pub pool_back : (old mid new : PoolView) (n : ℕ) → Grows old mid → n ≡ length old.trees → new.trees ≡ take n mid.trees → new.limit ≡ mid.limit → Grows old new
pool_back old mid new n g e r l = Grows_same old new (trees_back old mid new.trees n g e r) (l ∙ g.limit)

pub kept_back : (old mid new : Work) (s t : Sequence) (n : ℕ) → IsKept old mid s t → n ≡ length old.pool.trees → new.pool.trees ≡ take n mid.pool.trees → new.pool.limit ≡ mid.pool.limit → new.names ≡ mid.names → new.decls ≡ mid.decls → IsKept old new s t
kept_back old mid new s t n k e r l i d = record {
  grows = pool_back old.pool mid.pool new.pool n k.grows e r l;
  names = i ∙ k.names;
  decls = d ∙ k.decls;
  sequence = k.sequence;
  empty = k.empty;
}

-- the game of a sequence stays
pub game_stays : (old new : Work) (s t : Sequence) → Grows old.pool new.pool → Same s t → s.game.root.0 < length old.pool.trees → game_in new.pool.trees t ≡ game_in old.pool.trees s
game_stays old new s t g k l = ap (λ (q : Game). tree_at new.pool.trees (Some q.root)) k.game ∙ root_grown old.pool new.pool s.game.root g l

pub may_again : (old new : Work) (s t : Sequence) → MayTry old s → IsKept old new s t → MayTry new t
may_again old new s t m k =
    let here : game_in new.pool.trees t ≡ game_in old.pool.trees s = game_stays old new s t k.grows k.sequence m.stands.live in
    let more = Grows_length old.pool new.pool k.grows in
    let at : s.game.root.0 < length old.pool.trees = m.stands.live in
    record {
      stands = record {
        live = subst (λ (q : Game). q.root.0 < length new.pool.trees) (sym k.sequence.game) (omega arith);
        small = subst (λ x. size x ≤ most_nodes) (sym here) m.stands.small;
        formed = subst (λ (v : DeclsView). IsWellFormed (declarations new.pool.trees v.list) (game_in new.pool.trees t)) (sym k.decls)
            (subst (IsWellFormed (declarations new.pool.trees old.decls.list)) (sym here)
            (subst (λ ds. IsWellFormed ds (game_in old.pool.trees s)) (sym (declarations_grown old.pool new.pool old.decls.list k.grows m.declared)) m.stands.formed));
        arrays = on_none _ t.arrays k.empty;
        fits = subst SumsFit (sym k.sequence.sum) m.stands.fits;
        modest = subst (λ (q : Sums). AreModest q t.steps) (sym k.sequence.sum) (subst (AreModest s.sum) (sym k.sequence.steps) m.stands.modest);
        few = (let e = k.sequence.steps in let f = m.stands.few in omega arith);
      };
      empty = k.empty;
      declared = subst (λ (v : DeclsView). All (IsBelow (length new.pool.trees)) v.list) (sym k.decls) (below_grown old.pool new.pool old.decls.list k.grows m.declared);
      equivalences = equivalences_kept old new s.game.root t.game.root k.grows k.decls m.declared m.equivalences;
      limit = k.grows.limit ∙ m.limit;
    }

-- another step may be tried behind one that was taken, once what was looked up is forgotten
pub may_next : (old new : Work) (s t u : Sequence) → MayTry old s → Grows old.pool new.pool → Stands new.pool.trees new.decls t → new.decls ≡ old.decls → Same t u → u.arrays ≡ None → MayTry new u
may_next old new s t u m g stands decls same empty =
    let here : game_in new.pool.trees u ≡ game_in new.pool.trees t = ap (λ (q : Game). tree_at new.pool.trees (Some q.root)) same.game in
    record {
      stands = record {
        live = subst (λ (q : Game). q.root.0 < length new.pool.trees) (sym same.game) stands.live;
        small = subst (λ x. size x ≤ most_nodes) (sym here) stands.small;
        formed = subst (IsWellFormed (declarations new.pool.trees new.decls.list)) (sym here) stands.formed;
        arrays = on_none _ u.arrays empty;
        fits = subst SumsFit (sym same.sum) stands.fits;
        modest = subst (λ (q : Sums). AreModest q u.steps) (sym same.sum) (subst (AreModest t.sum) (sym same.steps) stands.modest);
        few = (let e = same.steps in let f = stands.few in omega arith);
      };
      empty = empty;
      declared = subst (λ (v : DeclsView). All (IsBelow (length new.pool.trees)) v.list) (sym decls) (below_grown old.pool new.pool old.decls.list g m.declared);
      equivalences = equivalences_kept old new s.game.root u.game.root g decls m.declared m.equivalences;
      limit = g.limit ∙ m.limit;
    }

-- and where games are given back
pub may_back : (mark : ℕ) (old new : Work) (s t : Sequence) → MayTry old s → mark ≤ length old.pool.trees → All (IsBelow mark) old.decls.list → StaysUpTo mark old.pool new.pool → Stands new.pool.trees new.decls t → new.decls ≡ old.decls → t.arrays ≡ None → MayTry new t
may_back mark old new s t m l below stays stands decls empty =
    let low : PoolView = record { trees = take mark old.pool.trees; limit = old.pool.limit; spare = 0 } in
    let long : length (take mark old.pool.trees) ≡ mark = length-take-le mark old.pool.trees l in
    let behind : Grows low new.pool = record { kept = ap (λ n. take n new.pool.trees) long ∙ stays.kept; limit = stays.limit } in
    let there : All (IsBelow (length low.trees)) old.decls.list = subst (λ n. All (IsBelow n) old.decls.list) (sym long) below in
    record {
      stands = stands;
      empty = empty;
      declared = subst (λ (v : DeclsView). All (IsBelow (length new.pool.trees)) v.list) (sym decls) (below_grown low new.pool old.decls.list behind there);
      equivalences = equivalences_stay old new s.game.root t.game.root decls (declarations_stay mark old.pool new.pool old.decls.list l stays below) m.equivalences;
      limit = stays.limit ∙ m.limit;
    }

-- a step may be tried in a first game
pub may_begin : (w : Work) (game : Game) (s : Sequence) → s.game ≡ game → s.arrays ≡ None → s.steps ≡ 0 → s.sum ≡ no_sums
    → game.root.0 < length w.pool.trees → size (tree_at w.pool.trees (Some game.root)) ≤ 50000 → IsWellFormed (declarations w.pool.trees w.decls.list) (tree_at w.pool.trees (Some game.root)) → All (IsBelow (length w.pool.trees)) w.decls.list → HasEquivalences (scene_of w.pool w.decls game.root) → w.pool.limit ≡ most_pool
    → MayTry w s
may_begin w game s g empty n m live small formed below equivalences limit =
    let here : game_in w.pool.trees s ≡ tree_at w.pool.trees (Some game.root) = ap (λ (q : Game). tree_at w.pool.trees (Some q.root)) g in
    record {
      stands = record {
        live = subst (λ (q : Game). q.root.0 < length w.pool.trees) (sym g) live;
        small = subst (λ t. size t ≤ 50000) (sym here) small;
        formed = subst (IsWellFormed (declarations w.pool.trees w.decls.list)) (sym here) formed;
        arrays = on_none _ s.arrays empty;
        fits = subst SumsFit (sym m) (tt, tt);
        modest = subst (λ (q : Sums). AreModest q s.steps) (sym m) (omega arith);
        few = omega (arith, n);
      };
      empty = empty;
      declared = below;
      equivalences = subst (λ (q : Game). HasEquivalences (scene_of w.pool w.decls q.root)) (sym g) equivalences;
      limit = limit;
    }

-- what was found is there again where no step was taken, and where games are given back

pub record Again (free : Bool) (start new : Work) (first : Tree) (t : Sequence) (xs : List Tree) (ts : List Transition) (ns : List Table) : Type 0 where
  pub again : HasFound free start new first t
  pub found : again.found ≡ xs
  pub proof : again.gone.followed.proof ≡ ts
  pub tables : again.gone.tables ≡ ns

found_alike : {free : Bool} (start old new : Work) (first : Tree) (s t : Sequence) (h : HasFound free start old first s) → AreAlike start old new s t → Again free start new first t h.found h.gone.followed.proof h.gone.tables
found_alike start old new first s t h a =
    let g = gone_alike (length new.pool.trees) start old new first s t h.gone a (omega arith) in
    record { again = record { found = h.found; gone = g.gone }; found = refl; proof = g.proof; tables = g.tables }

pub found_again : {free : Bool} (start old new : Work) (first : Tree) (s t : Sequence) (h : HasFound free start old first s) → s.game.root.0 < length old.pool.trees → IsKept old new s t → Again free start new first t h.found h.gone.followed.proof h.gone.tables
found_again start old new first s t h at k = found_alike start old new first s t h (record {
  grows = Grows_trans start.pool old.pool new.pool h.gone.grows k.grows;
  game = game_stays old new s t k.grows k.sequence at;
  steps = k.sequence.steps;
  sum = k.sequence.sum;
  closed = k.sequence.closed;
  names = k.names;
  decls = k.decls;
})

pub found_back : {free : Bool} (mark : ℕ) (start old new : Work) (first : Tree) (s t : Sequence) (h : HasFound free start old first s) → length start.pool.trees ≤ mark → IsGivenBack mark old new s t → Again free start new first t h.found h.gone.followed.proof h.gone.tables
found_back mark start old new first s t h l k = found_alike start old new first s t h (record {
  grows = grows_kept mark start.pool old.pool new.pool h.gone.grows l k.stays;
  game = k.game;
  steps = k.same.steps;
  sum = k.same.sum;
  closed = k.same.closed;
  names = k.names;
  decls = k.decls;
})

-- as many steps are counted as were found
pub steps_counted : {free : Bool} (start now : Work) (first : Tree) (s : Sequence) (h : HasFound free start now first s) → s.steps ≡ length h.found
steps_counted start now first s h = h.gone.followed.count ∙ (sym (length-map h.gone.followed.proof (λ (x : Transition). x.step)) ∙ ap length (sym h.gone.followed.steps))

pub steps_more : {free : Bool} (start old new : Work) (first : Tree) (s t : Sequence) (h : HasFound free start old first s) (node : NodeId) → IsMore free start old new first s t h node → t.steps ≡ suc s.steps
steps_more start old new first s t h node m =
    let a = steps_counted start old first s h in
    let b = steps_counted start new first t m.next in
    let c = ap length m.put ∙ length-append h.found (m.step.step ∷ []) in
    omega arith

-- a step that is accepted is found, and what was looked up in its game is forgotten

module _ {free : Bool} (start old new : Work) (first : Tree) (below : All (IsBelow (length start.pool.trees)) start.decls.list) (s t : Sequence) (h : HasFound free start old first s) where
  module _ (step : NodeId) (live : step.0 < length old.pool.trees) where
    abbrev tree : Tree
    tree = tree_at old.pool.trees (Some step)

    pub found_more : (other : Sequence) (u : Unit {0}) → MayTry old s → IsPushed old.pool old.decls new.pool.trees s t tree (Ok u) → Grows old.pool new.pool → Stands new.pool.trees new.decls t
        → length new.pool.trees ≤ length old.pool.trees + needed_for (scene_of old.pool old.decls s.game.root) tree (game_in new.pool.trees t) (items_of_step tree) → take (length old.names) new.names ≡ old.names → new.decls ≡ old.decls
        → (mid : Table) → DrawsBefore free old.names mid old.decls.own (game_in old.pool.trees s) (items_of_step tree) → ((r : Reducing) → reducing_in tree ≡ Some r → DrawsNext mid new.names old.decls.own (scene_of old.pool old.decls s.game.root) r.equivalence r.key (game_in new.pool.trees t)) → (reducing_in tree ≡ None → new.names ≡ mid)
        → Same t other → other.arrays ≡ None → IsMore free start old new first s other h step
    found_more other u m p g stands few names decls mid ready draws alone same empty =
        let more = gone_more start old new first below s t h.gone tree u m.stands.live p g few names decls mid ready draws alone in
        let longer = Grows_length old.pool new.pool g in
        let here : game_in new.pool.trees other ≡ game_in new.pool.trees t = ap (λ (q : Game). tree_at new.pool.trees (Some q.root)) same.game in
        let there : step.0 < length old.pool.trees = live in
        let a = gone_alike (length new.pool.trees) start new new first t other more.gone (record {
          grows = more.gone.grows;
          game = here;
          steps = same.steps;
          sum = same.sum;
          closed = same.closed;
          names = refl;
          decls = refl;
        }) (omega arith) in
        record {
          next = record { found = h.found ++ tree ∷ []; gone = a.gone };
          live = omega arith;
          step = more.step;
          tree = more.taken ∙ sym (root_grown old.pool new.pool step g live);
          put = ap (λ (x : Tree). h.found ++ x ∷ []) (sym more.taken);
          proof = a.proof ∙ more.proof;
          tables = a.tables ∙ more.tables;
          leg = record {
            names = refl;
            step = refl;
            cost = same.cost ∙ more.leg.cost;
            context = more.leg.context ∙ ap (option_map shape_in) (sym same.context);
            next = more.leg.next ∙ ap (game_behind (closing_in more.step.step)) (sym here);
          };
          again = may_next old new s t other m g stands decls same empty;
        }

    -- one that isn't ends a run
    pub stops_by : (e : PushError) → MayTry old s → IsPushed old.pool old.decls new.pool.trees s t tree (Err e) → new.pool.trees ≡ old.pool.trees → (end : Status) → stop_of e s.steps ≡ Some end
        → Stops (length new.pool.trees) (length h.found) (scene (declarations start.pool.trees start.decls.list) (known_to start.decls.own) (game_in old.pool.trees s)) (closed_by h.gone.followed.proof) tree end
    stops_by e m p kept end i =
        let same : length old.pool.trees ≡ length new.pool.trees = ap length (sym kept) in
        let ds : List Declaration = declarations start.pool.trees start.decls.list in
        subst (λ n. Stops (length new.pool.trees) n (scene ds (known_to start.decls.own) (game_in old.pool.trees s)) (closed_by h.gone.followed.proof) tree end) (steps_counted start old first s h)
        (stops_at ds start.decls.own old.pool old.decls (is_ds start old new first below s t h.gone) (is_own start old new first below s t h.gone) s t (closed_by h.gone.followed.proof) new.pool.trees tree e (length new.pool.trees) end
        (ap numbers_of h.gone.followed.closed ∙ numbers_same no_sums h.gone.followed.proof) p i m.limit (omega arith))

-- no step was found
pub found_none : {free : Bool} (w : Work) (first : Tree) (s : Sequence) → s.steps ≡ 0 → s.sum ≡ no_sums → s.closed ≡ [] → game_in w.pool.trees s ≡ first → Again free w w first s [] [] []
unfolding names_behind followed_none
found_none {free} w first s n m k g = record {
  again = record {
    found = [];
    gone = record {
      followed = followed_none (length w.pool.trees) (declarations w.pool.trees w.decls.list) w.decls.own w.pool.trees s first n m k (omega arith) g;
      tables = [];
      drawn = tt;
      last = refl;
      grows = Grows_refl w.pool;
      names = take_all (length w.names) w.names (omega arith);
      decls = refl;
    };
  };
  found = refl;
  proof = refl;
  tables = refl;
}
