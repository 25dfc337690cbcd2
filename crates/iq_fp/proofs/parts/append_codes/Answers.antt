use Rattle.iq_fp.proofs.parts.append_codes.Goals as goal

pub returns-in-One-clause-ok : goal.returns-in-One-clause-ok
returns-in-One-clause-ok g c = rw (c.in-One.is, ← c.of.ensures) c.append_behind.ensures.ok

pub returns-in-Two-clause-ok : goal.returns-in-Two-clause-ok
returns-in-Two-clause-ok g c = rw (c.in-Two.is, ← c.of-in-Two.ensures) c.append_behind-in-Two.ensures.ok

pub returns-in-Three-clause-ok : goal.returns-in-Three-clause-ok
returns-in-Three-clause-ok g c = rw (c.in-Three.is, ← c.of-in-Three.ensures) c.append_behind-in-Three.ensures.ok
