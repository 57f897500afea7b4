use Rattle.std.proofs.Common.{◌≡◌, ◌+◌, ◌*◌, ◌<◌, length, drop, vec_items, vec_len}
use Rattle.inspect.proofs.Steps.{ToldTo}
use Rattle.inspect.proofs.file.records.Given as goal

abbrev pub invariant-loop-rest : goal.invariant-loop-rest
invariant-loop-rest l =
    (l.rest ≡ drop (64 * vec_len l.all) l.bytes) × (64 * vec_len l.all < length l.bytes + 64) × ToldTo (vec_len l.all) l.bytes (vec_items l.all)

abbrev pub decreases-loop-rest : goal.decreases-loop-rest
decreases-loop-rest l = length l.rest
