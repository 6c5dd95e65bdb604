-- What each step leaves is what the next one needs.
use mathlib.Core.Path.{refl}
use Prim.Native.Nat.{ℕ}
use native.Mathlib.Omega.{arith}
use lib.ListN.{length-replicate, get_or-replicate}
use Rattle.cows.proofs.Basics.{get_d_zeros}
use Rattle.ways.proofs.KnownTables.{known_of, table_size}
use Rattle.roles.specs.declared.Role.{Role}
use Rattle.roles.specs.declared.Role.TheVariants.{Idle}
use Rattle.roles.specs.Roles.{unfit}
use Rattle.lister.proofs.Arrays.{unassigned}
use Rattle.lister.proofs.open_sized.Goals as goal

pub chain_scopes-requires : goal.chain_scopes-requires
chain_scopes-requires g c = let k = (known_of c.args.table.known) in
    record { whole = k.whole; few = k.few; wide = refl; bare = get_d_zeros 256; room = omega (arith, c.requires.sizes.0, length-replicate {A = ℕ} g.row.N 0) }

pub assign-requires : goal.assign-requires
assign-requires g c = (c.chain_scopes.ensures, omega (arith, c.requires.sizes.0, length-replicate {A = Role} g.row.N Idle))

pub chain_senders-requires : goal.chain_senders-requires
chain_senders-requires g c = let k = (known_of c.args.table.known) in (
  record { whole = k.whole; few = k.few; wide = refl; bare = get_d_zeros 256; room = omega (arith, c.requires.sizes.0, length-replicate {A = ℕ} g.row.N 0) },
  omega (arith, c.requires.sizes.0, c.assign.auto.cast, length-replicate {A = Role} g.row.N Idle),
)

pub find_fewest-requires : goal.find_fewest-requires
find_fewest-requires g c = (
  record { known = (known_of c.args.table.known); roles = λ t h. c.assign.ensures t h (unassigned g.row.N); room = omega (arith, c.requires.sizes.0, c.assign.auto.cast, length-replicate {A = Role} g.row.N Idle) },
  c.chain_senders.ensures,
  omega (arith, c.requires.sizes.0, length-replicate {A = ℕ} g.row.N unfit),
)

pub find_scopes-requires : goal.find_scopes-requires
find_scopes-requires g c = (
  record { known = (known_of c.args.table.known); roles = λ t h. c.assign.ensures t h (unassigned g.row.N); room = omega (arith, c.requires.sizes.0, c.assign.auto.cast, length-replicate {A = Role} g.row.N Idle) },
  c.chain_scopes.ensures,
  omega (arith, c.requires.sizes.0, c.requires.sizes.2, length-replicate {A = ℕ} g.row.M 0),
)

pub write_list-requires : goal.write_list-requires
write_list-requires g c =
    record {
      played = record { known = (known_of c.args.table.known); roles = λ t h. c.assign.ensures t h (unassigned g.row.N); room = omega (arith, c.requires.sizes.0, c.assign.auto.cast, length-replicate {A = Role} g.row.N Idle) };
      atoms = c.chain_scopes.ensures;
      senders = c.chain_senders.ensures;
      fewest_all = omega (arith, c.requires.sizes.0, c.find_fewest.auto.fewest, length-replicate {A = ℕ} g.row.N unfit);
      sent_all = omega (arith, c.requires.sizes.0, c.requires.sizes.2, c.find_scopes.auto.sent, length-replicate {A = ℕ} g.row.M 0);
      numbers = λ t h.
          c.find_fewest.ensures t h (c.assign.ensures t h (unassigned g.row.N))
          (λ b l. get_or-replicate {A = ℕ} g.row.N b unfit 0 (omega (arith, l, table_size _ _ t h, c.requires.sizes.0)));
      places = λ t h. c.find_scopes.ensures t h (c.assign.ensures t h (unassigned g.row.N));
    }
