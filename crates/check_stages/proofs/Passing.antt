-- All stages, from those of the header and those after it.
use Rattle.std.specs.Prelude.{None, Some}
use mathlib.Core.Path.{◌≡◌, sym, subst}
use mathlib.Core.Bool.{Bool, true, false, cond}
use mathlib.Core.List.{List}
use Prim.Native.Nat.{ℕ, ◌+◌, ◌*◌, ◌≤◌, ◌<◌}
use native.Mathlib.Omega.{arith}
use lib.Dec.{eqb}
use lib.ListN.{length}
use Rattle.theory.specs.Stages.{Known, Header, Stages, version_in, nodes_of, runs_of, word_blocks, metres_block}
use Rattle.theory.specs.Faults.{RestKept}
use Rattle.image_layout.specs.declared.Layout.{Layout}
use Rattle.image_layout.specs.Layout.{layout_in}
use Rattle.image_layout.specs.Fits.{MetresFit, LaidOut}
use Rattle.check_metres.specs.Ends.{MetresEnded}
use Rattle.check_stages.specs.Passes.{StagesPass}

module _ (bytes : List ℕ) (layout : Layout) (laid : layout ≡ layout_in bytes) where
  abbrev n : ℕ
  n = nodes_of bytes

  abbrev block : ℕ
  block = metres_block n (runs_of bytes)

  -- the bytes of a right header have room for its layout
  pub laid_out : (blocks : ℕ) → length bytes ≡ 512 * blocks → blocks ≤ 574 → Header bytes → LaidOut bytes layout
  laid_out blocks size few h = subst (LaidOut bytes) (sym laid) (record {
    some = h.some;
    most = h.most;
    is_r0 = omega arith;
    is_r1_samples = omega arith;
    is_r0_samples = omega arith;
    room = omega (arith, h.needed);
    metres_room = metres_fit (eqb (version_in bytes) 2) (omega (arith, h.needed));
    small = omega arith;
  })
    where
      metres_fit : (t : Bool) → 512 * (block + word_blocks (cond t n 0)) ≤ length bytes → MetresFit bytes (cond t (Some block) None) n
      metres_fit true room = room
      metres_fit false room = tt

  pub together : Known (version_in bytes) → Header bytes → StagesPass bytes layout → Stages bytes
  together v h s =
      let q = subst (StagesPass bytes) laid s in
      let p = q.strings in
      record {
        version = v;
        header = h;
        ended1 = p.right1.ended;
        ended0 = p.right0.ended;
        in_step = p.in_step;
        kept1 = p.right1.kept;
        kept0 = p.right0.kept;
        sampled1 = p.sampled1;
        sampled0 = p.sampled0;
        metres_end = ended (eqb (version_in bytes) 2) q.metres;
      }
    where
      ended : (t : Bool) → MetresEnded bytes (cond t (Some block) None) n → (j : ℕ) → j < word_blocks (cond t n 0) → RestKept bytes block (cond t n 0) j
      ended true e = e
      ended false e = λ j h. absurd (omega arith)

  pub apart : Stages bytes → StagesPass bytes layout
  apart s = subst (StagesPass bytes) (sym laid) (record {
    strings = record {
      right1 = record { kept = s.kept1; ended = s.ended1 };
      right0 = record { kept = s.kept0; ended = s.ended0 };
      in_step = s.in_step;
      sampled1 = s.sampled1;
      sampled0 = s.sampled0;
    };
    metres = ended (eqb (version_in bytes) 2) s.metres_end;
  })
    where
      ended : (t : Bool) → ((j : ℕ) → j < word_blocks (cond t n 0) → RestKept bytes block (cond t n 0) j) → MetresEnded bytes (cond t (Some block) None) n
      ended true e = e
      ended false e = tt
