-- The bytes of six blocks of which none is damaged.
use Rattle.openrdson_core.specs.Tech.{Blocks, the_blocks}
use Rattle.openrdson_core.specs.declared.tech.SoundBlocks.{SoundBlocks}

abbrev pub sound_bytes : SoundBlocks → Blocks
sound_bytes b = the_blocks b.names.bytes.now b.conducting.bytes.now b.via.bytes.now b.conductors.bytes.now b.diffusions.bytes.now b.vias.bytes.now
