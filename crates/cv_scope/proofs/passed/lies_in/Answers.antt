use Rattle.std.proofs.Common.{◌-◌, leb, ℕ, rules, arith, refl, get_or}
use Rattle.std.proofs.lemmas.List.Sorted.{IsPartitionPoint-from_clause, IsPartitionedBy-leb}
use Rattle.cv_scope.proofs.Rising.{rise_orders, in_no_range, in_last_range}
use Rattle.cv_scope.proofs.passed.lies_in.Goals as goal

pub returns-then-behind-eq0 : goal.returns-then-behind-eq0
returns-then-behind-eq0 c =
    let ranges = c.args.ranges.now in
    let parted = IsPartitionedBy-leb (λ (r : ℕ × ℕ). r.0) ranges c.args.place (rise_orders ranges c.requires) in
    let point = IsPartitionPoint-from_clause (λ (r : ℕ × ℕ). leb r.0 c.args.place) _ _ c.partition_point-behind.ensures.partitioned parted (λ a r q k. search rules) in
    in_no_range ranges c.args.place c.partition_point-behind.result c.if-behind-eq0.true (λ k e l m. point.1 k e l m)

pub returns : goal.returns
returns c =
    let ranges = c.args.ranges.now in
    let parted = IsPartitionedBy-leb (λ (r : ℕ × ℕ). r.0) ranges c.args.place (rise_orders ranges c.requires) in
    let point = IsPartitionPoint-from_clause (λ (r : ℕ × ℕ). leb r.0 c.args.place) _ _ c.partition_point-behind.ensures.partitioned parted (λ a r q k. search rules) in
    in_last_range ranges c.args.place c.partition_point-behind.result (0, 0) (get_or ranges (c.partition_point-behind.result - 1) (0, 0)) c.requires c.if-behind-eq0.false c.partition_point-behind.ensures.bound refl (λ k e l m. point.0 k e (omega arith) m) (λ k e l m. point.1 k e l m)
